-- Why a fault blames the reader or the writer.
use Rattle.std.specs.Prelude.{◌≡◌, ◌⊎◌}
use Rattle.ds_script.specs.declared.fault.ReplayFault.{ReplayFault}
use Rattle.ds_script.specs.declared.fault.ReplayFault.TheVariants.{ReadFault, WriteFault}
use Rattle.line_io.specs.declared.streams.Source.{Ghosts as Reader}
use Rattle.line_io.specs.declared.streams.Sink.{Ghosts as Writer}
use Rattle.line_io.specs.Streams.{HasFailedRead, HasFailedWrite, OnlyCalls}

-- The cause of a fault, and what was written before it. ReadFault comes only if a read of this call failed or 2^32 reads
-- were made; WriteFault only if a write of this call failed. Before any other fault no write failed.
abbrev pub HasCause : {R W : Type 0} → Reader R → Writer W → ReplayFault → (old new : R) → (from to : W) → Type 0
HasCause r w ReadFault old new from to = HasFailedRead r.reads r.fails old new × OnlyCalls w.writes from to
HasCause r w WriteFault old new from to = HasFailedWrite w.writes w.fails from to
HasCause r w _ old new from to = OnlyCalls w.writes from to

-- Like `HasCause` where nothing is read: no fault blames the reader.
abbrev pub HasWriteCause : {W : Type 0} → Writer W → ReplayFault → (from to : W) → Type 0
HasWriteCause w ReadFault from to = ⊥
HasWriteCause w WriteFault from to = HasFailedWrite w.writes w.fails from to
HasWriteCause w _ from to = OnlyCalls w.writes from to

-- Like `HasCause`, for one read, which is the one that ReadFault blames.
abbrev pub HasTurnCause : {R W : Type 0} → Reader R → Writer W → ReplayFault → (old new : R) → (from to : W) → Type 0
HasTurnCause r w ReadFault old new from to = r.fails old new × OnlyCalls w.writes from to
HasTurnCause r w WriteFault old new from to = HasFailedWrite w.writes w.fails from to
HasTurnCause r w _ old new from to = OnlyCalls w.writes from to

-- The fault after the waiting answers are written: the one before, or a write that failed then. A writer that failed
-- gets nothing more.
abbrev pub SettlesFor : {W : Type 0} → Writer W → (given fault : ReplayFault) → (old new : W) → Type 0
SettlesFor w given WriteFault old new = (given ≡ WriteFault) × (new ≡ old)
SettlesFor w given fault old new =
    ((given ≡ fault) × OnlyCalls w.writes old new) ⊎ ((given ≡ WriteFault) × HasFailedWrite w.writes w.fails old new)
