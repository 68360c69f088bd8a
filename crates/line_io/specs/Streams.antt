-- Statements of readers and writers about their calls, and what follows when reading or writing stops.
use Rattle.std.specs.Prelude.{◌≡◌, ◌≢◌, ℕ, zero, suc, ◌-◌, ◌^◌, ◌≤◌, ◌⊎◌, Option, None, Some, Result, Ok, Err}
use Rattle.std.specs.IoError.{error_kind}
use Rattle.std.specs.declared.io.Error.{Error}
use Rattle.std.specs.declared.io.ErrorKind.TheVariants as kinds
use Rattle.line_io.specs.declared.missed.Missed.{Missed}
use Rattle.line_io.specs.declared.missed.Missed.TheVariants.{Interrupted, Failed}

-- The step that a read states by its answer: `fails` if it failed, `reads` if not.
abbrev pub TellsRead : {S : Type 0} → (reads fails : S → S → Type 0) → Result ℕ Missed → S → S → Type 0
TellsRead reads fails (Ok count) old new = reads old new
TellsRead reads fails (Err Interrupted) old new = reads old new
TellsRead reads fails (Err Failed) old new = fails old new

-- The step that a write states by its answer: `fails` if it failed or took no bytes, `writes` if not.
abbrev pub TellsWrite : {S : Type 0} → (writes fails : S → S → Type 0) → Result ℕ Missed → S → S → Type 0
TellsWrite writes fails (Ok count) old new = (count ≢ 0 → writes old new) × (count ≡ 0 → fails old new)
TellsWrite writes fails (Err Interrupted) old new = writes old new
TellsWrite writes fails (Err Failed) old new = fails old new

-- Whether `n` calls lead from the first state to the second.
abbrev pub CallsLead : {S : Type 0} → (S → S → Type 0) → ℕ → S → S → Type 0
CallsLead calls zero old new = new ≡ old
CallsLead {S} calls (suc n) old new = (mid : S) × CallsLead calls n old mid × calls mid new

-- Whether calls lead from the first state to the second.
abbrev pub OnlyCalls : {S : Type 0} → (S → S → Type 0) → (old new : S) → Type 0
OnlyCalls calls old new = (n : ℕ) × CallsLead calls n old new

-- Whether `n` calls of one sort and a last one of another lead from the first state to the second.
abbrev pub IsLastAfter : {S : Type 0} → (calls last : S → S → Type 0) → ℕ → S → S → Type 0
IsLastAfter {S} calls last n old new = (mid : S) × CallsLead calls n old mid × last mid new

-- Whether the reads ended in a fault: only the last one failed, or 2^32 were made and none failed.
abbrev pub HasFailedRead : {R : Type 0} → (reads fails : R → R → Type 0) → (old new : R) → Type 0
HasFailedRead reads fails old new = (n : ℕ) × (IsLastAfter reads fails n old new ⊎ ((n ≡ 2 ^ 32) × CallsLead reads n old new))

-- Whether the writes ended in a fault: only the last one failed, or at least 2^64 - 1 were made and none failed.
abbrev pub HasFailedWrite : {W : Type 0} → (writes fails : W → W → Type 0) → (old new : W) → Type 0
HasFailedWrite writes fails old new = (n : ℕ) × (IsLastAfter writes fails n old new ⊎ ((2 ^ 64 - 1 ≤ n) × CallsLead writes n old new))

-- ---- streams of std

-- Whether a call's error is an interruption by a signal, or there is no error.
abbrev pub IsUnharmed : Option Error → Type 0
IsUnharmed None = Unit {0}
IsUnharmed (Some error) = error_kind error ≡ kinds.Interrupted

-- Whether a call's error is any but an interruption.
abbrev pub IsHarmed : Option Error → Type 0
IsHarmed None = ⊥
IsHarmed (Some error) = error_kind error ≢ kinds.Interrupted

-- Whether the call reports the error rightly: an interruption as one, and any other error as a failure.
abbrev pub MeansMissed : Error → Missed → Type 0
MeansMissed error Interrupted = error_kind error ≡ kinds.Interrupted
MeansMissed error Failed = error_kind error ≢ kinds.Interrupted
