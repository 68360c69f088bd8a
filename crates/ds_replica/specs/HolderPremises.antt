-- The premises of the laws of catching up, of agreement and of labels. Without any one of them, a law is false.
use Rattle.std.specs.Prelude.{◌≡◌, ℕ, Bool, true, List, Contains}
use Rattle.ds_names.specs.declared.key.Key.{Key}
use Rattle.ds_entry.specs.Change.{ChangeRecord}
use Rattle.ds_entry.specs.Item.{IsItem}
use Rattle.ds_entry.specs.ItemCovers.{AreSingleNumbered}
use Rattle.ds_entry.specs.declared.item.Item.{Item}
use Rattle.ds_entry.specs.declared.item.Item.TheVariants.{Change as Changed}
use Rattle.ds_join.specs.ItemTop.{IsTop, CoversAll}
use Rattle.ds_feed.specs.Feed.{Feed, position}
use Rattle.ds_replica.specs.Sent.{Sent, IsSent, learnt}
use Rattle.ds_replica.specs.Whole.{IsWhole}
use Rattle.ds_replica.specs.CatchUp.{MapHolds}
use Rattle.ds_replica.specs.Agreement.{KnowSame}
use Rattle.ds_replica.specs.Labels.{HoldsNoOlder, label_in, IsNewest}
use Rattle.ds_names.specs.Key.{label_key}
use Rattle.ds_entry.specs.Under.{under}

-- The premises of catching up. The map's items are whole, the store's items cover what the map learnt, and nothing that
-- the map learnt contradicts itself. Each item is the top of what it stands for. The map holds the top of what it learnt,
-- and the store the top of what it accepted.
pub record CatchUpNeeds : Type 0 where
  pub whole : ¬ ((f : Feed) (query : Key → Bool) (items : List Sent) (stored held : List Item) → IsTop stored f.accepted →
      MapHolds query items held →
      CoversAll stored (under query (learnt query items)) → AreSingleNumbered (under query (learnt query items)) →
      held ≡ under query stored)
  pub nothing_else : ¬ ((f : Feed) (query : Key → Bool) (items : List Sent) (stored held : List Item) → IsTop stored f.accepted →
      MapHolds query items held →
      IsWhole f query items (position f) → AreSingleNumbered (under query (learnt query items)) → held ≡ under query stored)
  pub numbers : ¬ ((f : Feed) (query : Key → Bool) (items : List Sent) (stored held : List Item) → IsTop stored f.accepted →
      MapHolds query items held →
      IsWhole f query items (position f) → CoversAll stored (under query (learnt query items)) → held ≡ under query stored)
  pub sent : ¬ ((f : Feed) (query : Key → Bool) (items : List Sent) (stored held : List Item) → IsTop stored f.accepted →
      IsTop held (learnt query items) →
      IsWhole f query items (position f) → CoversAll stored (under query (learnt query items)) →
      AreSingleNumbered (under query (learnt query items)) → held ≡ under query stored)
  pub held : ¬ ((f : Feed) (query : Key → Bool) (items : List Sent) (stored held : List Item) → IsTop stored f.accepted →
      ((s : Sent) → Contains items s → IsSent s) →
      IsWhole f query items (position f) → CoversAll stored (under query (learnt query items)) →
      AreSingleNumbered (under query (learnt query items)) → held ≡ under query stored)
  pub stored : ¬ ((f : Feed) (query : Key → Bool) (items : List Sent) (stored held : List Item) → MapHolds query items held →
      IsWhole f query items (position f) → CoversAll stored (under query (learnt query items)) →
      AreSingleNumbered (under query (learnt query items)) → held ≡ under query stored)

-- The premises of agreement: both holders know the same items, and these don't contradict each other.
pub record AgreementNeeds : Type 0 where
  pub numbers : ¬ ((query : Key → Bool) (known other held too : List Item) → IsTop held known → IsTop too other →
      KnowSame query known other → under query held ≡ under query too)
  pub same : ¬ ((query : Key → Bool) (known other held too : List Item) → IsTop held known → IsTop too other →
      AreSingleNumbered (under query known) → under query held ≡ under query too)

-- The premises of labels. The change is a label's, since a floor may void any other one. The known items keep the rules of
-- labels, which tie an endpoint to its epoch. The query includes the label.
pub record LabelsNeed : Type 0 where
  pub label : ¬ ((known held : List Item) (c : ChangeRecord) → IsTop held known → Contains known (Changed c) → HoldsNoOlder held c)
  pub items : ¬ ((query : Key → Bool) (known held : List Item) (name : List ℕ) → IsTop held known → query (label_key name) ≡ true →
      IsNewest known name (label_in (under query held) name))
  pub query : ¬ ((query : Key → Bool) (known held : List Item) (name : List ℕ) → ((i : Item) → Contains known i → IsItem i) →
      IsTop held known → IsNewest known name (label_in (under query held) name))
