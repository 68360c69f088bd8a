-- Items that leave out nothing that a store accepted.
use Rattle.std.specs.Prelude.{ℕ, ◌-◌, Bool, List, take}
use Rattle.ds_names.specs.declared.key.Key.{Key}
use Rattle.ds_entry.specs.declared.item.Item.{Item}
use Rattle.ds_join.specs.ItemTop.{IsPartOf}
use Rattle.ds_feed.specs.Feed.{Feed}
use Rattle.ds_replica.specs.Sent.{Sent, stood_for}
use Rattle.ds_entry.specs.Under.{under}

-- The items that took effect before this position.
abbrev pub before : Feed → ℕ → List Item
before f r = take (r - f.first) f.accepted

-- Whether the items are whole up to the position: they stand for everything under the query that took effect before it.
abbrev pub IsWhole : Feed → (Key → Bool) → List Sent → ℕ → Type 0
IsWhole f query items r = IsPartOf (under query (before f r)) (stood_for items)
