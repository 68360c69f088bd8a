-- Why a replay of what is left blames its reader or its writer.
use Rattle.std.specs.Prelude.{ℕ, suc, ◌^◌, ◌≤◌, ◌⊎◌}
use Rattle.ds_script.specs.declared.fault.ReplayFault.{ReplayFault}
use Rattle.ds_script.specs.declared.fault.ReplayFault.TheVariants.{ReadFault, WriteFault}
use Rattle.line_io.specs.declared.streams.Source.{Ghosts as Reader}
use Rattle.line_io.specs.declared.streams.Sink.{Ghosts as Writer}
use Rattle.line_io.specs.Streams.{CallsLead, IsLastAfter, HasFailedWrite, OnlyCalls}

-- Whether one or more reads lead from the first state to the second.
abbrev pub SomeReadsLead : {R : Type 0} → (reads : R → R → Type 0) → (old new : R) → Type 0
SomeReadsLead reads old new = (n : ℕ) × CallsLead reads (suc n) old new

-- Whether the reads ended in a fault: only the last one failed, or at least `most` were made and none failed.
abbrev pub EndsReading : {R : Type 0} → ℕ → (reads fails : R → R → Type 0) → (old new : R) → Type 0
EndsReading most reads fails old new = (n : ℕ) × (IsLastAfter reads fails n old new ⊎ ((most ≤ n) × CallsLead reads n old new))

-- The cause of a fault, and what was written before it. ReadFault comes only if a read of this call failed or at least
-- 2^32 were made; WriteFault only if a write of this call failed. Before any other fault no write failed.
abbrev pub IsCausedBy : {R W : Type 0} → Reader R → Writer W → ReplayFault → (old new : R) → (from to : W) → Type 0
IsCausedBy r w ReadFault old new from to = EndsReading (2 ^ 32) r.reads r.fails old new × OnlyCalls w.writes from to
IsCausedBy r w WriteFault old new from to = HasFailedWrite w.writes w.fails from to
IsCausedBy r w _ old new from to = OnlyCalls w.writes from to
