-- All labels: whose task is next, and which of them takes an input.
use Rattle.std.specs.Prelude.{◌≡◌, ◌⊎◌, ◌<◌, ◌≤◌, ◌+◌, nat_lt, ℕ, Bool, true, false, List, Some, slice_get, slice_set, if◌then◌else◌}
use Rattle.std.specs.List.{All, HoldsAt}
use Rattle.process_keeper.specs.Doing.{MayDo, IsSettled}
use Rattle.process_keeper.specs.Inputs.{is_accepted, after_input}
use Rattle.process_keeper.specs.declared.input.Input.{Input}
use Rattle.process_keeper.specs.declared.lifecycle.Lifecycle.{Lifecycle}
use Rattle.process_keeper.specs.declared.task.Task.{Task}
use Rattle.process_keeper.specs.declared.task.Task.TheVariants.{Rest, Fork}

abbrev pub is_rest : Task → Bool
is_rest Rest = true
is_rest _ = false

abbrev pub is_urgent : Task → Bool
is_urgent Rest = false
is_urgent (Fork g) = false
is_urgent _ = true

-- Whether nothing but a start is to be done about the label.
abbrev pub IsCalm : Lifecycle → ℕ → Type 0
IsCalm p now = IsSettled p now ⊎ ((g : ℕ) × MayDo p now (Fork g))

-- Whether the rule allows the task at the label with this number.
abbrev pub MayBeNext : List Lifecycle → ℕ → ℕ × Task → Type 0
MayBeNext labels now next = HoldsAt (λ p. MayDo p now next.1) labels next.0

-- A start is next only if nothing else is to be done, about any label.
abbrev pub IsFirst : List Lifecycle → ℕ → Task → Type 0
IsFirst labels now (Fork g) = All (λ p. IsCalm p now) labels
IsFirst labels now _ = Unit {0}

abbrev pub IsCalmAt : Lifecycle → ℕ → Task → Type 0
IsCalmAt p now t = is_urgent t ≡ false → IsCalm p now

abbrev pub IsSettledAt : Lifecycle → ℕ → Task → Type 0
IsSettledAt p now t = is_rest t ≡ true → IsSettled p now

-- The label with this number accepts the input, or there is none that does.
abbrev pub AcceptsAt : List Lifecycle → ℕ → Input → Bool → Type 0
AcceptsAt labels k input true = (p : Lifecycle) × (slice_get labels k ≡ Some p) × (is_accepted p input ≡ true)
AcceptsAt labels k input false = (p : Lifecycle) → slice_get labels k ≡ Some p → is_accepted p input ≡ false

-- The label with this number accepts the input, or none changes.
abbrev pub TakesAt : List Lifecycle → ℕ → Input → Bool → List Lifecycle → Type 0
TakesAt old k input true new =
    (p : Lifecycle) × (slice_get old k ≡ Some p) × (is_accepted p input ≡ true) × (new ≡ slice_set old k (after_input p input))
TakesAt old k input false new = ((p : Lifecycle) → slice_get old k ≡ Some p → is_accepted p input ≡ false) × (new ≡ old)

-- The next generation after one was given, if the file is ahead.
abbrev pub next_given : ℕ → ℕ → ℕ
next_given next file = if nat_lt next file then next + 1 else next

-- The file gets the generation, or a later one was given.
abbrev pub IsWritten : ℕ → ℕ → ℕ → Bool → ℕ → Type 0
IsWritten next old file true new = (next ≤ file) × (new ≡ file)
IsWritten next old file false new = (file < next) × (new ≡ old)
