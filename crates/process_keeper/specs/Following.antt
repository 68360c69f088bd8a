-- How a label follows RS: what it runs, or is to run, becomes what RS wants.
use Rattle.std.specs.Prelude.{◌≡◌, ℕ, ◌==◌, Bool, true, false, List, [], ◌∷◌, Option, Some, None, is_some}
use Rattle.std.specs.Prelude.{slice_get, slice_set, if◌then◌else◌}
use Rattle.process_keeper.specs.Inputs.{is_running, is_accepted, after_input}
use Rattle.process_keeper.specs.declared.input.Input.{Input}
use Rattle.process_keeper.specs.declared.input.Input.TheVariants.{Cancelled, Started, Stopped}
use Rattle.process_keeper.specs.declared.instance.Instance.{Instance}
use Rattle.process_keeper.specs.declared.lifecycle.Lifecycle.{Lifecycle}

-- The generation of an instance that is up.
abbrev pub up_generation : Option Instance → Option ℕ
up_generation None = None
up_generation (Some i) = if is_some i.deadline then None else Some i.generation

abbrev pub pending_or_up : Option ℕ → Option Instance → Option ℕ
pending_or_up (Some g) i = Some g
pending_or_up None i = up_generation i

-- The generation that the label is to run: of its pending start, or else of the instance that is up.
abbrev pub wanted : Lifecycle → Option ℕ
wanted p = pending_or_up p.pending p.instance

abbrev pub are_same_wants : Option ℕ → Option ℕ → Bool
are_same_wants None None = true
are_same_wants (Some a) (Some b) = a == b
are_same_wants _ _ = false

-- The label without a pending start, and with a deadline for an instance that is up.
abbrev pub halted : Lifecycle → ℕ → Lifecycle
halted p deadline = if is_running p.instance then after_input (after_input p Cancelled) (Stopped deadline) else after_input p Cancelled

abbrev pub begun_anew : Lifecycle → Option ℕ → Lifecycle
begun_anew p None = p
begun_anew p (Some g) = after_input p (Started g)

-- The label that is to run this generation, or nothing: unchanged if it is to do so already.
abbrev pub followed : Lifecycle → Option ℕ → ℕ → Lifecycle
followed p generation deadline = if are_same_wants (wanted p) generation then p else begun_anew (halted p deadline) generation

-- The label with this number follows, or there is none.
abbrev pub FollowsAt : List Lifecycle → ℕ → Option ℕ → ℕ → Bool → List Lifecycle → Type 0
FollowsAt old k generation deadline true new =
    (p : Lifecycle) × (slice_get old k ≡ Some p) × (new ≡ slice_set old k (followed p generation deadline))
FollowsAt old k generation deadline false new = (slice_get old k ≡ None) × (new ≡ old)

abbrev pub after_inputs : Lifecycle → List Input → Lifecycle
after_inputs p [] = p
after_inputs p (input ∷ inputs) = after_inputs (after_input p input) inputs

-- Whether the label accepts the inputs, one by one.
abbrev pub AcceptsAll : Lifecycle → List Input → Type 0
AcceptsAll p [] = Unit {0}
AcceptsAll p (input ∷ inputs) = (is_accepted p input ≡ true) × AcceptsAll (after_input p input) inputs

-- A law: a label that follows wants the generation, and takes inputs that it accepts.
pub record FollowsByInputs (p : Lifecycle) (generation : Option ℕ) (deadline : ℕ) : Type 0 where
  pub wants : wanted (followed p generation deadline) ≡ generation
  pub inputs : List Input
  pub accepted : AcceptsAll p inputs
  pub after : followed p generation deadline ≡ after_inputs p inputs

abbrev pub FollowingIsInputs : Type 0
FollowingIsInputs = (p : Lifecycle) (generation : Option ℕ) (deadline : ℕ) → FollowsByInputs p generation deadline
