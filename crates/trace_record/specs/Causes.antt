-- Why a fault of a recording blames the reader or the writer.
use Rattle.std.specs.Prelude.{◌≡◌, ℕ, ◌⊎◌, Result, Ok, Err}
use Rattle.line_io.specs.Streams.{CallsLead, OnlyCalls, HasFailedRead, HasFailedWrite}
use Rattle.line_io.specs.declared.streams.Source.{Ghosts as Reader}
use Rattle.line_io.specs.declared.streams.Sink.{Ghosts as Writer}
use Rattle.trace_record.specs.declared.fault.RecordFault.{RecordFault}
use Rattle.trace_record.specs.declared.fault.RecordFault.TheVariants.{ReadFault, WriteFault}

-- The cause of a fault, and what was written before it. ReadFault comes only if a read of this call failed or 2^32 reads
-- were made; WriteFault only if a write of this call failed. Before any other fault no write failed.
abbrev pub IsToBlame : {R W : Type 0} → Reader R → Writer W → RecordFault → (old new : R) → (from to : W) → Type 0
IsToBlame r w ReadFault old new from to = HasFailedRead r.reads r.fails old new × OnlyCalls w.writes from to
IsToBlame r w WriteFault old new from to = HasFailedWrite w.writes w.fails from to
IsToBlame r w _ old new from to = OnlyCalls w.writes from to

-- Like `IsToBlame` where nothing is written.
abbrev pub IsReadCause : {R : Type 0} → Reader R → RecordFault → (old new : R) → Type 0
IsReadCause r ReadFault old new = HasFailedRead r.reads r.fails old new
IsReadCause r _ old new = Unit {0}

-- Like `IsReadCause`, whichever reader the reads began with.
abbrev pub IsCausedOn : {R : Type 0} → Reader R → RecordFault → (old new : R) → ℕ → Type 0
IsCausedOn {R} r fault old new made = (first : R) → CallsLead r.reads made first old → IsReadCause r fault first new

-- Whether `reads` reads lead from the first reader to this one, and none failed; or the cause of the fault.
abbrev pub ReadsLead : {R T : Type 0} → Reader R → Result T RecordFault → (first now : R) → ℕ → Type 0
ReadsLead r (Ok x) first now reads = CallsLead r.reads reads first now
ReadsLead r (Err fault) first now reads = IsReadCause r fault first now

-- Like `ReadsLead`, whichever reader the reads began with.
abbrev pub ReadsOn : {R T : Type 0} → Reader R → Result T RecordFault → (old new : R) → (made reads : ℕ) → Type 0
ReadsOn {R} r result old new made reads = (first : R) → CallsLead r.reads made first old → ReadsLead r result first new reads

-- Like `ReadsLead` from one result to the next, whichever reader the reads began with.
abbrev pub LeadsFrom : {R T : Type 0} → Reader R →
    (before : Result T RecordFault) (old : R) (made : ℕ) (after : Result T RecordFault) (new : R) (reads : ℕ) → Type 0
LeadsFrom {R} r before old made after new reads = (first : R) → ReadsLead r before first old made → ReadsLead r after first new reads

-- The cause of a fault of a run, however many reads were made before.
abbrev pub RunIsCaused : {R W T : Type 0} → Reader R → Writer W → Result T RecordFault → (old new : R) → ℕ →
    (from to : W) → RecordFault → Type 0
RunIsCaused {R} r w next old new made from to fault = (first : R) → ReadsLead r next first old made → IsToBlame r w fault first new from to

-- The fault after the waiting entries are written: the one before, or a write that failed then. A writer that failed
-- isn't called again.
abbrev pub SettlesBy : {W : Type 0} → Writer W → RecordFault → (old new : W) → RecordFault → Type 0
SettlesBy w WriteFault old new result = (result ≡ WriteFault) × (new ≡ old)
SettlesBy w fault old new result =
    ((result ≡ fault) × OnlyCalls w.writes old new) ⊎ ((result ≡ WriteFault) × HasFailedWrite w.writes w.fails old new)
