-- The first items of a list.
use Rattle.std.specs.Prelude.{◌≡◌, ℕ, ◌≤◌, List, length, take}
use Rattle.ds_entry.specs.declared.item.Item.{Item}

-- Whether the second list is the first `count` items of the first, which has at least as many.
abbrev pub AreFirstItems : ℕ → List Item → List Item → Type 0
AreFirstItems count items first = (first ≡ take count items) × (count ≤ length items)
