-- The walk through a whole trace.
use Rattle.std.specs.Prelude.{◌≡◌, ℕ, List, Option}
use Rattle.line_io.specs.Streams.{CallsLead, HasFailedRead}
use Rattle.line_io.specs.declared.streams.Source.{Ghosts as Reader}
use Rattle.trace_walk.specs.declared.verdict.Verdict.{Verdict}
use Rattle.trace_walk.specs.declared.verdict.Verdict.TheVariants.{ReadFault}
use Rattle.trace_walk.specs.Verdict.{IsVerdict}
use Rattle.trace_walk.specs.declared.walk.Walk.{Walk}
use Rattle.trace_walk.specs.Steps.{WalksAt}
use Rattle.trace_walk.specs.Walking.{Spot}

-- Whether, from after the header on, the verdict is the input's.
abbrev pub EndsWith : Walk → Option (List ℕ) → Verdict → Type 0
EndsWith old from verdict = (b : Spot) → WalksAt b old from → b.count ≡ 0 → IsVerdict b.bytes verdict

-- The cause of a verdict. ReadFault comes only if the last read failed, or 2^32 reads were made.
abbrev pub IsVerdictCause : {R : Type 0} → Reader R → Verdict → (old new : R) → Type 0
IsVerdictCause r ReadFault old new = HasFailedRead r.reads r.fails old new
IsVerdictCause r _ old new = Unit {0}

-- Like `IsVerdictCause`, whichever reader the reads began with.
abbrev pub IsWalkedCause : {R : Type 0} → Reader R → Verdict → ℕ → (old new : R) → Type 0
IsWalkedCause {R} r verdict made old new = (first : R) → CallsLead r.reads made first old → IsVerdictCause r verdict first new
