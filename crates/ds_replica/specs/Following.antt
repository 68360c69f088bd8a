-- Laws of holders that follow a store from a snapshot or from pages.
use Rattle.std.specs.Prelude.{◌≡◌, ◌≤◌, Bool, List, ◌∷◌, ◌++◌, None, Contains}
use Rattle.ds_names.specs.declared.key.Key.{Key}
use Rattle.ds_entry.specs.Item.{passes}
use Rattle.ds_entry.specs.ItemCovers.{AreSingleNumbered}
use Rattle.ds_entry.specs.declared.item.Item.{Item}
use Rattle.ds_join.specs.ItemTop.{IsTop, IsPartOf, CoversAll}
use Rattle.ds_feed.specs.Feed.{Feed, position}
use Rattle.ds_feed.specs.Page.{snapshot_of}
use Rattle.ds_replica.specs.Under.{KeepsQuery}
use Rattle.ds_replica.specs.Sent.{Sent, given, learnt}
use Rattle.ds_replica.specs.Front.{IsFront, end_of}
use Rattle.ds_replica.specs.Journaled.{SinceTurn, AreSince, since_items, cursor_after}
use Rattle.ds_replica.specs.Paged.{PageTurn, ArePages, page_items}
use Rattle.ds_replica.specs.CatchUp.{MapHolds}
use Rattle.ds_entry.specs.Under.{under}

-- Whether the map took at least these items, in any order and with any repeats, the store's items cover all that the map
-- learnt, and nothing that it learnt contradicts itself.
pub record HasTaken (query : Key → Bool) (stored held : List Item) (items taken : List Sent) : Type 0 where
  pub all : (s : Sent) → Contains items s → Contains taken s
  pub map : MapHolds query taken held
  pub nothing_else : CoversAll stored (under query (learnt query taken))
  pub numbers : AreSingleNumbered (under query (learnt query taken))

-- A law: a map holds exactly what the store holds under the query, if the map took an earlier snapshot, and what the
-- journal returned from there up to the store's position.
abbrev pub FollowsFromSnapshot : Type 0
FollowsFromSnapshot =
    (f early : Feed) (known top stored held : List Item) (scope other query : Key → Bool) (turns : List SinceTurn) (taken : List Sent) →
    KeepsQuery scope query → KeepsQuery other query →
    IsFront early f → IsPartOf early.accepted known → IsTop top early.accepted → AreSince f other (end_of early) turns →
    position f ≤ (cursor_after (end_of early) turns).position → IsTop stored f.accepted →
    HasTaken query stored held (given known (snapshot_of (passes scope) top (end_of early)).items ++ since_items turns) taken →
    held ≡ under query stored

-- A law: a map holds exactly what the store holds under the query, if the map took all pages, and what the journal
-- returned from the first page's cursor up to the store's position.
abbrev pub FollowsFromPages : Type 0
FollowsFromPages =
    (f : Feed) (stored held : List Item) (scope other query : Key → Bool) (first : PageTurn) (pages : List PageTurn)
    (turns : List SinceTurn) (taken : List Sent) → KeepsQuery scope query → KeepsQuery other query →
    let from = first.page.cursor in
    ArePages f scope None 0 (first ∷ pages) → AreSince f other from turns → position f ≤ (cursor_after from turns).position →
    IsTop stored f.accepted →
    HasTaken query stored held (page_items (first ∷ pages) ++ since_items turns) taken → held ≡ under query stored
