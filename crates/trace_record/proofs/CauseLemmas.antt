-- Why a recording ends by its reader or its writer.
use Rattle.std.proofs.Common.{◌≡◌, ℕ, inl, inr, ◌⊎◌, sym, subst}
use Rattle.line_io.specs.Streams.{OnlyCalls, HasFailedWrite}
use Rattle.line_io.proofs.CallLemmas.{only_calls_on, failed_on}
use Rattle.line_io.specs.declared.streams.Source.{Ghosts as Reader}
use Rattle.line_io.specs.declared.streams.Sink.{Ghosts as Writer}
use Rattle.trace_walk.specs.Reads.{BlamesLines}
use Rattle.trace_walk.specs.declared.entry.EntryFault.{EntryFault}
use Rattle.trace_walk.specs.declared.entry.EntryFault.TheVariants as entries
use Rattle.trace_record.specs.declared.fault.RecordFault.{RecordFault}
use Rattle.trace_record.specs.declared.fault.RecordFault.TheVariants.{BadLine, ReadFault, WriteFault, NoRoom}
use Rattle.trace_record.specs.declared.recorder.Recorder.{Recorder}
use Rattle.trace_record.specs.Causes.{IsToBlame, IsCausedOn, IsReadCause, SettlesBy}
use Rattle.trace_record.specs.Reading.{IsOfInput, of_lines}
use Rattle.trace_record.specs.Steps.{FailsAtHead}

-- a first line that isn't read blames nobody
pub unread_cause : {R : Type 0} (r : Reader R) (w new : Recorder) (fault : RecordFault) (old : R) (made : ℕ) → FailsAtHead w new fault →
    IsCausedOn r fault old old made
unread_cause r w new (BadLine number place) old made f = λ first led. tt
unread_cause r w new NoRoom old made f = λ first led. tt
unread_cause r w new ReadFault old made f = absurd f.0
unread_cause r w new WriteFault old made f = absurd f.0

-- nor does out of memory
pub room_cause : {R : Type 0} (r : Reader R) (fault : RecordFault) (old new : R) (made : ℕ) → fault ≡ NoRoom →
    IsCausedOn r fault old new made
room_cause r fault old new made e = subst (λ (f : RecordFault). IsCausedOn r f old new made) (sym e) (λ first led. tt)

-- the fault of lines keeps its cause
pub lines_cause : {R : Type 0} (r : Reader R) (fault : EntryFault) (place : ℕ) (old new : R) → BlamesLines r fault old new →
    IsReadCause r (of_lines fault place) old new
lines_cause r (entries.BadLine number) place old new c = tt
lines_cause r entries.ReadFault place old new c = c
lines_cause r entries.NoRoom place old new c = tt

-- a fault of the input is the reader's
pub input_cause : {R W : Type 0} (r : Reader R) (w : Writer W) (fault : RecordFault) (old new : R) (from to : W) →
    OnlyCalls w.writes from to → IsOfInput fault → IsReadCause r fault old new → IsToBlame r w fault old new from to
input_cause r w (BadLine number place) old new from to wrote is c = wrote
input_cause r w ReadFault old new from to wrote is c = (c, wrote)
input_cause r w WriteFault old new from to wrote is c = absurd is
input_cause r w NoRoom old new from to wrote is c = wrote

-- after the waiting entries are written, it is still the fault, or a write failed there
either : {R W : Type 0} (r : Reader R) (w : Writer W) (fault result : RecordFault) (old new : R) (from mid to : W) →
    (OnlyCalls w.writes from to → IsToBlame r w fault old new from to) → OnlyCalls w.writes from mid
    → ((result ≡ fault) × OnlyCalls w.writes mid to) ⊎ ((result ≡ WriteFault) × HasFailedWrite w.writes w.fails mid to)
    → IsToBlame r w result old new from to
either r w fault result old new from mid to still wrote (inl same) =
    subst (λ (f : RecordFault). IsToBlame r w f old new from to) (sym same.0) (still (only_calls_on w.writes from mid to wrote same.1))
either r w fault result old new from mid to still wrote (inr failed) =
    subst (λ (f : RecordFault). IsToBlame r w f old new from to) (sym failed.0) (failed_on w.writes w.fails from mid to wrote failed.1)

pub settled_caused : {R W : Type 0} (r : Reader R) (w : Writer W) (fault result : RecordFault) (old new : R) (from mid to : W) →
    IsToBlame r w fault old new from mid → SettlesBy w fault mid to result → IsToBlame r w result old new from to
settled_caused r w (BadLine number place) result old new from mid to c s =
    either r w (BadLine number place) result old new from mid to (λ all. all) c s
settled_caused r w ReadFault result old new from mid to c s = either r w ReadFault result old new from mid to (λ all. (c.0, all)) c.1 s
settled_caused r w NoRoom result old new from mid to c s = either r w NoRoom result old new from mid to (λ all. all) c s
settled_caused {R} {W} r w WriteFault result old new from mid to c s =
    subst (λ (f : RecordFault). IsToBlame r w f old new from to) (sym s.0)
    (subst (λ (x : W). HasFailedWrite w.writes w.fails from x) (sym s.1) c)
