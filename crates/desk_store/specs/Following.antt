-- Maps that follow a store by a subscription.
use Rattle.std.specs.Prelude.{◌≡◌, ℕ, ◌<◌, true, false, List, Contains, Some}
use Rattle.ds_entry.specs.Item.{passes}
use Rattle.ds_entry.specs.Under.{under}
use Rattle.ds_entry.specs.declared.item.Item.{Item}
use Rattle.ds_join.specs.ItemTop.{IsPartOf}
use Rattle.ds_pattern.specs.declared.query.Query.{Query}
use Rattle.ds_pattern.specs.Under.{is_under}
use Rattle.ds_machine.specs.State.{State, held, subscription_at}
use Rattle.ds_machine.specs.Subscription.{Subscription, is_unseen}

-- Whether the map follows the store in this state. The subscription at the place has the query and the stamp. Each item that is held under
-- the query is in the map, or hasn't been shown yet. The items in the map were accepted, and are under the query, as every floor is.
pub record FollowsStore (s : State) (sub : ℕ) (query : Query) (stamp : ℕ) (map : List Item) : Type 0 where
  pub seer : Subscription
  pub here : subscription_at s sub ≡ Some seer
  pub query_is : seer.query ≡ query
  pub stamp_is : seer.stamp ≡ stamp
  pub has : (i : Item) → Contains (held s) i → passes (is_under query) i ≡ true → is_unseen query seer.shown i ≡ false → Contains map i
  pub given : IsPartOf map (under (is_under query) s.feed.accepted)

-- Whether another program has used the subscription, so that its stamp is greater.
pub record IsTakenOver (s : State) (sub stamp : ℕ) : Type 0 where
  pub seer : Subscription
  pub here : subscription_at s sub ≡ Some seer
  pub above : stamp < seer.stamp

-- Whether the map is what the store holds under the query.
abbrev pub IsCurrent : State → Query → List Item → Type 0
IsCurrent s query map = map ≡ under (is_under query) (held s)
