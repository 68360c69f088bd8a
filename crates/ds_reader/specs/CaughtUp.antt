-- What the journal added to the items.
use Rattle.std.specs.Prelude.{◌≡◌, List, ◌++◌}
use Rattle.ds_entry.specs.declared.item.Item.{Item}
use Rattle.ds_feed.specs.declared.cursor.Cursor.{Cursor}
use Rattle.ds_pattern.specs.declared.query.Query.{Query}
use Rattle.ds_pattern.specs.Under.{is_under}
use Rattle.ds_replica.specs.Journaled.{SinceTurn, AreSince, cursor_after}
use Rattle.ds_replica.specs.Gathered.{journaled}
use Rattle.ds_machine.specs.State.{State, next_position}

-- Whether `more` is `items` followed by the journal's replies up to the store's cursor. The first reply was read from
-- `from`, each later one from the cursor of the reply before it.
pub record IsCaughtUp (t : State) (query : Query) (from : Cursor) (items more : List Item) : Type 0 where
  pub turns : List SinceTurn
  pub are : AreSince t.feed (is_under query) from turns
  pub items_are : more ≡ items ++ journaled turns
  pub to_end : (cursor_after from turns).position ≡ next_position t
