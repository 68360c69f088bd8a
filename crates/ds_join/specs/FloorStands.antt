-- The effect of a floor on what is held.
use Rattle.std.specs.Prelude.{◌≡◌, ◌≤◌, false, List, Contains}
use Rattle.ds_entry.specs.Change.{ChangeRecord}
use Rattle.ds_entry.specs.Void.{voids}
use Rattle.ds_entry.specs.declared.floor.Floor.{Floor}
use Rattle.ds_entry.specs.declared.item.Item.{Item}
use Rattle.ds_entry.specs.declared.item.Item.TheVariants.{Change as Changed, Floor as Floored}

-- Whether the items have a floor of this owner at least as high.
abbrev pub IsFloorKept : List Item → Floor → Type 0
IsFloorKept items f = (g : Floor) × Contains items (Floored g) × (g.owner ≡ f.owner) × (f.generation ≤ g.generation)

-- Whether the floor voids no change among the items. Those of its owner are labels, or have an epoch above its
-- generation.
abbrev pub IsDropped : List Item → Floor → Type 0
IsDropped items f = (c : ChangeRecord) → Contains items (Changed c) → voids f c ≡ false

-- Whether the floor or a higher one of its owner is held, and nothing that it voids is.
pub record FloorStands (held : List Item) (f : Floor) : Type 0 where
  pub kept : IsFloorKept held f
  pub dropped : IsDropped held f
