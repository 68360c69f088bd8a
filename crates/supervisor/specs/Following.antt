-- How the labels of a supervisor follow RS.
use Rattle.std.specs.Prelude.{◌≡◌, ℕ, Bool, true, false, List, Some, length, slice_get}
use Rattle.process_keeper.specs.Following.{followed}
use Rattle.process_keeper.specs.Order.{TakesAt}
use Rattle.process_keeper.specs.declared.input.Input.{Input}
use Rattle.process_keeper.specs.declared.input.Input.TheVariants.{Started, Cancelled, Stopped, Reported}
use Rattle.process_keeper.specs.declared.lifecycle.Lifecycle.{Lifecycle}
use Rattle.rs_core.specs.Late.{in_force}
use Rattle.rs_core.specs.State.{RsRecord, state_at}

-- Each label is to run the instance that RS counts as up, or nothing.
pub record LabelsFollow (rs : RsRecord) (deadline : ℕ) (old new : List Lifecycle) : Type 0 where
  pub count : length new ≡ length old
  pub each : (k : ℕ) (q : Lifecycle) → slice_get new k ≡ Some q →
      (p : Lifecycle) × (slice_get old k ≡ Some p) × (q ≡ followed p (in_force (state_at rs k)) deadline)

-- The label's instance is reported, and then each label follows. What is left of the instance has no grace period.
abbrev pub ReportsAndFollows : RsRecord → ℕ → ℕ → List Lifecycle → List Lifecycle → Type 0
ReportsAndFollows rs k now old new = (mid : List Lifecycle) × TakesAt old k (Reported now) true mid × LabelsFollow rs now mid new

-- Whether the input is for a caller to note. The others are RS's.
abbrev pub is_note : Input → Bool
is_note (Started g) = false
is_note Cancelled = false
is_note (Stopped at) = false
is_note (Reported at) = false
is_note _ = true
