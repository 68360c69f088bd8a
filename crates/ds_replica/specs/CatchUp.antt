-- The holding of a subscriber's map after the map took everything that a store accepted.
use Rattle.std.specs.Prelude.{◌≡◌, Bool, List, Contains}
use Rattle.ds_names.specs.declared.key.Key.{Key}
use Rattle.ds_entry.specs.ItemCovers.{AreSingleNumbered}
use Rattle.ds_entry.specs.declared.item.Item.{Item}
use Rattle.ds_join.specs.ItemTop.{IsTop, IsPartOf, CoversAll}
use Rattle.ds_feed.specs.Feed.{Feed, position}
use Rattle.ds_replica.specs.Sent.{Sent, IsSent, given, learnt}
use Rattle.ds_replica.specs.Whole.{IsWhole}
use Rattle.ds_entry.specs.Under.{under}

-- Whether `held` is the holding of a map with this query that took these items.
pub record MapHolds (query : Key → Bool) (items : List Sent) (held : List Item) : Type 0 where
  pub sent : (s : Sent) → Contains items s → IsSent s
  pub top : IsTop held (learnt query items)

-- A law: a map holds exactly what a store holds under the map's query, if the map's items are whole up to the store's
-- position, and the store's items cover all that the map learnt. That is the top of what the store accepted under the
-- query.
abbrev pub HoldsTheStores : Type 0
HoldsTheStores =
    (f : Feed) (query : Key → Bool) (items : List Sent) (stored held : List Item) → IsTop stored f.accepted → MapHolds query items held →
    IsWhole f query items (position f) → CoversAll stored (under query (learnt query items)) →
    AreSingleNumbered (under query (learnt query items)) →
    (held ≡ under query stored) × IsTop held (under query f.accepted)

-- A law: even if the items contradict each other, the map holds the same keys, owners and versions as the store.
abbrev pub HoldsAlike : Type 0
HoldsAlike =
    (f : Feed) (query : Key → Bool) (items : List Sent) (stored held : List Item) → IsTop stored f.accepted → MapHolds query items held →
    IsWhole f query items (position f) → CoversAll stored (under query (learnt query items)) →
    CoversAll held (under query stored) × CoversAll (under query stored) held

-- A law: if the store accepted everything that the map learnt, the map holds a top of what was accepted under its query,
-- even with contradictions.
abbrev pub HoldsATop : Type 0
HoldsATop =
    (f : Feed) (query : Key → Bool) (items : List Sent) (held : List Item) → MapHolds query items held →
    IsWhole f query items (position f) → IsPartOf (under query (learnt query items)) f.accepted → IsTop held (under query f.accepted)

-- A law: a map that learnt more, for instance from another store, holds at least what the store holds under its query.
abbrev pub HoldsAtLeast : Type 0
HoldsAtLeast =
    (f : Feed) (query : Key → Bool) (items : List Sent) (stored held : List Item) → IsTop stored f.accepted → MapHolds query items held →
    IsWhole f query items (position f) → CoversAll held (under query stored)

-- A law: like `HoldsTheStores`, for any holder that knows everything that the store accepted under a query, if the store's
-- items cover all that the holder knows under it.
abbrev pub AnyHolderHoldsTheStores : Type 0
AnyHolderHoldsTheStores =
    (f : Feed) (query : Key → Bool) (known stored held : List Item) → IsTop stored f.accepted → IsTop held known →
    IsPartOf (under query f.accepted) known → CoversAll stored (under query known) → AreSingleNumbered (under query known) →
    under query held ≡ under query stored

-- A law: everything that a map holds is under its query.
abbrev pub MapHoldsItsQuery : Type 0
MapHoldsItsQuery = (query : Key → Bool) (items : List Sent) (held : List Item) → MapHolds query items held → under query held ≡ held

-- A law: each item that a store returns of those it knows is the top of what the item stands for.
abbrev pub GivenIsSent : Type 0
GivenIsSent = (known items : List Item) → IsPartOf items known → (s : Sent) → Contains (given known items) s → IsSent s
