-- Floors: an owner, and the greatest of its generations whose entries are void.
use Rattle.std.specs.Prelude.{ℕ, ◌≤◌, List}
use Rattle.ds_names.specs.Name.{IsName}
use Rattle.ds_entry.specs.declared.floor.Floor.{Floor}

-- The floor with these parts.
abbrev pub floor_of : List ℕ → ℕ → Floor
floor_of owner generation = record { owner = owner; generation = generation }

-- Whether both parts are in their ranges.
pub record IsFloor (f : Floor) : Type 0 where
  pub owner : IsName f.owner
  pub generation : f.generation ≤ 2097151
