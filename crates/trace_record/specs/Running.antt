-- A recording from entry to entry, and its end. `known` is what the reader had at first, and `had` what the writer
-- held.
use Rattle.std.specs.Prelude.{◌≡◌, ℕ, ◌⊎◌, Bool, List, [], ◌++◌, Option, Some, Result, Ok, Err}
use Rattle.std.specs.Io.KnownBytes.{Appends}
use Rattle.ds_content.specs.Stands.{ContentStands}
use Rattle.line_io.specs.Transfer.{WritesPart}
use Rattle.ds_machine.specs.State.{State}
use Rattle.trace_walk.specs.declared.header.Header.{Header}
use Rattle.trace_record.specs.declared.fault.RecordFault.{RecordFault}
use Rattle.trace_record.specs.declared.fault.RecordFault.TheVariants.{WriteFault}
use Rattle.trace_record.specs.declared.recorder.Recorder.{Recorder}
use Rattle.trace_record.specs.Reading.{ComesToNext, GoesToNoRing}
use Rattle.trace_record.specs.Asking.{IsFirstLines, IsAllLines}
use Rattle.trace_record.specs.Record.{IsBeforeFault}
use Rattle.trace_record.specs.Steps.{Recorded}

-- Whether a front of the entries so far is written, the rest waits, and this is the result of reading the next line.
-- The input's first line isn't `ring N` then.
pub record Runs (known : Option (List ℕ)) (first : List ℕ) (had : Option (List ℕ)) (h : Header) (w : Recorder)
    (from has : Option (List ℕ)) (next : Result Bool RecordFault) (count : ℕ) : Type 0 where
  pub sent : List ℕ
  pub asking : List ℕ
  pub state : State
  pub header : w.header ≡ h
  pub written : Appends had has sent
  pub recorded : Recorded h (sent ++ w.output.items) asking state count
  pub stands : ContentStands w.store state
  pub comes : (bytes : List ℕ) → known ≡ Some bytes → ComesToNext bytes (first ++ asking) w.entry.lines from next
  pub no_ring : first ++ asking ≡ [] → GoesToNoRing w.entry.lines next

-- Whether a front of the entries of some lines is written, and the rest waits.
pub record HasRun (known : Option (List ℕ)) (first : List ℕ) (had : Option (List ℕ)) (h : Header) (waits : List ℕ)
    (has : Option (List ℕ)) (Holds : List ℕ → List ℕ → Type 0) (count : ℕ) : Type 0 where
  pub sent : List ℕ
  pub asking : List ℕ
  pub state : State
  pub written : Appends had has sent
  pub recorded : Recorded h (sent ++ waits) asking state count
  pub input : (bytes : List ℕ) → known ≡ Some bytes → Holds bytes (first ++ asking)

-- Whether the writer has a front of the trace of some lines.
pub record HasFailed (known : Option (List ℕ)) (first : List ℕ) (had : Option (List ℕ)) (h : Header) (has : Option (List ℕ)) : Type 0 where
  pub text : List ℕ
  pub asking : List ℕ
  pub state : State
  pub count : ℕ
  pub recorded : Recorded h text asking state count
  pub written : WritesPart had has text
  pub input : (bytes : List ℕ) → known ≡ Some bytes → IsFirstLines bytes (first ++ asking)

-- How a run ended.
abbrev pub RunsTo : Option (List ℕ) → List ℕ → Option (List ℕ) → Header → List ℕ → Option (List ℕ) → Result ℕ RecordFault → Type 0
RunsTo known first had h waits has (Ok count) = HasRun known first had h waits has IsAllLines count
RunsTo known first had h waits has (Err WriteFault) = HasFailed known first had h has
RunsTo known first had h waits has (Err fault) = (count : ℕ) × HasRun known first had h waits has (IsBeforeFault h.format fault) count

-- Like `RunsTo`, whatever was recorded before.
abbrev pub RunsOn : Recorder → Option (List ℕ) → Option (List ℕ) → Result Bool RecordFault → Recorder →
    Option (List ℕ) → Result ℕ RecordFault → Type 0
RunsOn old from has next new now ran =
    (known : Option (List ℕ)) (first : List ℕ) (had : Option (List ℕ)) (h : Header) → Runs known first had h old from has next 0 →
    RunsTo known first had h new.output.items now ran

-- Whether the waiting entries are written after a fault other than the writer's; if they can't be, the writer failed.
abbrev pub WritesRest : RecordFault → (had has : Option (List ℕ)) → List ℕ → RecordFault → Type 0
WritesRest WriteFault had has waits result = (result ≡ WriteFault) × Appends had has []
WritesRest fault had has waits result = ((result ≡ fault) × Appends had has waits) ⊎ ((result ≡ WriteFault) × WritesPart had has waits)
