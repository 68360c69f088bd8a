-- Followers by plain values.
use Rattle.std.specs.Prelude.{◌≡◌, ℕ, List, Option, None}
use Rattle.ds_entry.specs.declared.item.Item.{Item}
use Rattle.ds_held.specs.Held.{held_items}
use Rattle.ds_pattern.specs.declared.query.Query.{Query}
use Rattle.ds_submap.specs.Map.{SubMapRecord, empty_map}

-- A follower: the number of its subscription, the last stamp that it got, or none if it is new or lost, and its map.
pub record FollowerRecord : Type 0 where
  pub sub : ℕ
  pub stamp : Option ℕ
  pub map : SubMapRecord

-- The follower with these parts.
abbrev pub follower_of : ℕ → Option ℕ → SubMapRecord → FollowerRecord
follower_of sub stamp map = record { sub = sub; stamp = stamp; map = map }

-- A new follower with this subscription and this query.
abbrev pub new_follower : ℕ → Query → FollowerRecord
new_follower sub query = follower_of sub None (empty_map query)

-- The items in the follower's map.
abbrev pub mapped : FollowerRecord → List Item
mapped f = held_items f.map.held

-- Whether g has the subscription and the query of f.
pub record IsSameFollower (f g : FollowerRecord) : Type 0 where
  pub sub : g.sub ≡ f.sub
  pub query : g.map.query ≡ f.map.query
