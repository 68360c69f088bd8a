-- Holders that read each other's stores whole.
use Rattle.std.specs.Prelude.{◌≡◌, ◌⊎◌, ◌≤◌, List, [], Contains}
use Rattle.std.specs.List.{flat_map}
use Rattle.ds_entry.specs.declared.item.Item.{Item}
use Rattle.ds_entry.specs.Under.{under}
use Rattle.ds_feed.specs.declared.cursor.Cursor.{Cursor}
use Rattle.ds_join.specs.ItemTop.{IsPartOf}
use Rattle.ds_machine.specs.Reached.{AreExact, IsReached}
use Rattle.ds_machine.specs.State.{State, held}
use Rattle.ds_pattern.specs.declared.query.Query.{Query}
use Rattle.ds_pattern.specs.Under.{is_under}
use Rattle.ds_reader.specs.CaughtUp.{IsCaughtUp}
use Rattle.ds_reader.specs.ReadWhole.{IsReadWhole}
use Rattle.holders.specs.Holding.{HolderRecord, Knows, all_held}

-- A holder, what it was brought before they read each other, and all that it was brought by now.
pub record Reader : Type 0 where
  pub holder : HolderRecord
  pub before : List Item
  pub known : List Item
  pub knows : Knows holder known
  pub kept : IsPartOf before known

-- Whether the items are all of a store's under the query, as `read_by_pages` and `read_by_checks` of `ds_reader` return them. The store
-- was then brought `before`, and perhaps more.
pub record AreReadFrom (query : Query) (before items : List Item) : Type 0 where
  pub holder : HolderRecord
  pub known : List Item
  pub knows : Knows holder known
  pub has : IsPartOf before known
  pub state : State
  pub reached : IsReached state
  pub held_is : held state ≡ all_held holder
  pub read : IsReadWhole state query items

-- Whether the second was brought all that it read from the first, unless the first is itself, or had nothing under the query before.
abbrev pub HasRead : Query → Reader → Reader → Type 0
HasRead query from to =
    (from ≡ to) ⊎ ((under (is_under query) from.before ≡ []) ⊎
    ((items : List Item) × AreReadFrom query from.before items × IsPartOf items to.known))

-- The items that the readers were brought before, together.
abbrev pub all_before : List Reader → List Item
all_before readers = flat_map (λ (r : Reader). r.before) readers

-- Whether each has read every other, and was brought nothing else meanwhile.
pub record HaveReadEachOther (query : Query) (readers : List Reader) : Type 0 where
  pub each : (from to : Reader) → Contains readers from → Contains readers to → HasRead query from to
  pub nothing_else : (r : Reader) → Contains readers r →
      IsPartOf (under (is_under query) r.known) (under (is_under query) (all_before readers))

-- A law: any number of holders that have read each other hold the same under the query, if what they were brought before is exact there.
abbrev pub ReadersAgree : Type 0
ReadersAgree =
    (query : Query) (readers : List Reader) → HaveReadEachOther query readers → AreExact (under (is_under query) (all_before readers)) →
    (r s : Reader) → Contains readers r → Contains readers s →
    under (is_under query) (all_held r.holder) ≡ under (is_under query) (all_held s.holder)

-- A law: a journal that still has its first item, read from there to its end, gives all of a store's items under the query.
abbrev pub JournalIsWhole : Type 0
JournalIsWhole =
    (t : State) (query : Query) (from : Cursor) (items : List Item) → IsCaughtUp t query from [] items →
    from.position ≤ t.feed.first → IsReadWhole t query items
