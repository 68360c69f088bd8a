-- What a service has after it read a store whole.
use Rattle.std.specs.Prelude.{◌≡◌, List, [], ◌++◌}
use Rattle.ds_entry.specs.declared.item.Item.{Item}
use Rattle.ds_entry.specs.Under.{under}
use Rattle.ds_join.specs.ItemTop.{IsPartOf}
use Rattle.ds_feed.specs.declared.cursor.Cursor.{Cursor}
use Rattle.ds_pattern.specs.declared.query.Query.{Query}
use Rattle.ds_pattern.specs.Under.{is_under}
use Rattle.ds_replica.specs.Checked.{CheckTurn, AreChecks}
use Rattle.ds_replica.specs.Gathered.{checked, journaled, paged}
use Rattle.ds_replica.specs.Journaled.{SinceTurn, AreSince}
use Rattle.ds_replica.specs.Sent.{given}
use Rattle.ds_replica.specs.Whole.{IsWhole}
use Rattle.ds_machine.specs.State.{State, next_position}
use Rattle.ds_reader.specs.GivesUp.{ArePaged}
use Rattle.ds_reader.specs.declared.reading.Reading.{Reading}

-- Whether the items are all of what a reader wants: each was accepted and is under the query, and each item under the query
-- that took effect up to the store's cursor is covered by one of them.
pub record IsReadWhole (t : State) (query : Query) (items : List Item) : Type 0 where
  pub among : IsPartOf items (under (is_under query) t.feed.accepted)
  pub whole : IsWhole t.feed (is_under query) (given t.feed.accepted items) (next_position t)

-- The items are exactly what the Checks since the Subscribe showed, in order: each time the first ones not shown yet.
abbrev pub AreChecked : State → State → Query → List Item → Type 0
AreChecked s t query items = (turns : List CheckTurn) × AreChecks s.feed t.feed (is_under query) [] turns × (items ≡ checked turns)

-- The items are exactly those of the pages, in order, and then those of the journal from the first page's cursor on.
pub record AreRead (s t : State) (reading : Reading) (items : List Item) : Type 0 where
  pub from : Cursor
  pub pages : ArePaged s t reading from
  pub turns : List SinceTurn
  pub are : AreSince t.feed (is_under reading.query) from turns
  pub items_are : items ≡ paged pages.pages ++ (pages.last.page.items ++ journaled turns)
