-- What holds in every state that the store's machine reaches from its opening.
use Rattle.std.specs.Prelude.{◌≡◌, true, ℕ, ◌≤◌, List, length, Contains, Some}
use Rattle.ds_entry.specs.ItemCovers.{covers}
use Rattle.ds_entry.specs.declared.item.Item.{Item}
use Rattle.ds_held.specs.Limits.{IsLimits}
use Rattle.ds_join.specs.ItemTop.{IsPartOf, HasOneOwnerInTurn}
use Rattle.ds_machine.specs.Subscription.{Subscription}
use Rattle.ds_machine.specs.State.{State, subscription_at}

-- What the subscription was shown was accepted, and its stamp is one that was taken.
pub record IsServed (s : State) (seer : Subscription) : Type 0 where
  pub shown : IsPartOf seer.shown s.feed.accepted
  pub stamp : seer.stamp ≤ s.stamp

-- Whether items that cover each other are equal. So no two changes of one key, owner and version have two bodies.
abbrev pub AreExact : List Item → Type 0
AreExact items = (i j : Item) → Contains items i → Contains items j → covers j i ≡ true → covers i j ≡ true → i ≡ j

pub record IsReached (s : State) : Type 0 where
  pub limits : IsLimits s.limits
  pub places : length s.subscriptions ≡ s.limits.subs
  -- at each change's turn, those of its key that aren't void have its owner
  pub owners : HasOneOwnerInTurn s.feed.accepted
  pub exact : AreExact s.feed.accepted
  pub served : (k : ℕ) (seer : Subscription) → subscription_at s k ≡ Some seer → IsServed s seer
