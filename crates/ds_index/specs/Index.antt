-- What an index lists, and how that changes.
use Rattle.std.specs.Prelude.{◌≡◌, ◌≢◌, ℕ, ◌⊎◌, List, Some, Contains, slice_get}
use Rattle.std.specs.List.{remove}
use Rattle.ds_index.specs.declared.named.Named.{Named}
use Rattle.ds_index.specs.Named.{inserted_label}

-- The labels in order, and the capacity for them.
pub record Listing : Type 0 where
  pub names : List Named
  pub room : ℕ

abbrev pub listing : List Named → ℕ → Listing
listing names room = record { names = names; room = room }

-- Whether the list has one more label, and is otherwise the same.
pub record IsAdded (old new : List Named) (p : Named) : Type 0 where
  pub keeps : (q : Named) → Contains old q → Contains new q
  pub here : Contains new p
  pub only : (q : Named) → Contains new q → (q ≡ p) ⊎ Contains old q

-- Whether the list has `after` in place of `before`, and is otherwise the same.
pub record IsReplaced (old new : List Named) (before after : Named) : Type 0 where
  pub keeps : (q : Named) → Contains old q → q ≢ before → Contains new q
  pub here : Contains new after
  pub only : (q : Named) → Contains new q → (q ≡ after) ⊎ (Contains old q × (q ≢ before))

-- Whether `before` was removed at its place, and `after` inserted at its own.
abbrev pub IsMovedLabel : List Named → List Named → Named → Named → Type 0
IsMovedLabel old new before after = (place : ℕ) × (slice_get old place ≡ Some before) × (new ≡ inserted_label after (remove old place))
