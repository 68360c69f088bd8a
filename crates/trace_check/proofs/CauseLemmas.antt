-- Why a walk ends by its reader, as a verdict and as a fault of an upgrade.
use Rattle.line_io.specs.Streams.{OnlyCalls}
use Rattle.line_io.proofs.CallLemmas.{only_calls_on, failed_on}
use Rattle.line_io.specs.declared.streams.Source.{Ghosts as Reader}
use Rattle.line_io.specs.declared.streams.Sink.{Ghosts as Writer}
use Rattle.trace_walk.specs.declared.fault.WalkFault.{WalkFault}
use Rattle.trace_walk.specs.declared.fault.WalkFault.TheVariants as walks
use Rattle.trace_walk.specs.Reads.{BlamesReader}
use Rattle.trace_walk.specs.Walking.{verdict_of}
use Rattle.trace_check.specs.declared.upgrading.UpgradeFault.{UpgradeFault}
use Rattle.trace_check.specs.declared.upgrading.UpgradeFault.TheVariants.{IllegalAt, BadLineAt, AlreadyTwo, ReadFault, WriteFault, NoRoom}
use Rattle.trace_check.specs.Upgrading.{BlamesUpgrade, upgrade_fault}
use Rattle.trace_check.specs.Verifying.{IsVerdictCause}

pub cause_told : {R : Type 0} (r : Reader R) (fault : WalkFault) (old new : R) → BlamesReader r fault old new →
    IsVerdictCause r (verdict_of fault) old new
cause_told r (walks.IllegalAt number) old new c = tt
cause_told r (walks.BadLineAt number) old new c = tt
cause_told r walks.ReadFault old new c = c
cause_told r walks.NoRoom old new c = tt

pub cause_upgraded : {R W : Type 0} (r : Reader R) (w : Writer W) (fault : WalkFault) (old new : R) (from to : W) →
    OnlyCalls w.writes from to → BlamesReader r fault old new → BlamesUpgrade r w (upgrade_fault fault) old new from to
cause_upgraded r w (walks.IllegalAt number) old new from to wrote c = wrote
cause_upgraded r w (walks.BadLineAt number) old new from to wrote c = wrote
cause_upgraded r w walks.ReadFault old new from to wrote c = (c, wrote)
cause_upgraded r w walks.NoRoom old new from to wrote c = wrote

-- a fault after writes that didn't fail
pub blames_on : {R W : Type 0} (r : Reader R) (w : Writer W) (fault : UpgradeFault) (old new : R) (from mid to : W) →
    OnlyCalls w.writes from mid → BlamesUpgrade r w fault old new mid to → BlamesUpgrade r w fault old new from to
blames_on r w (IllegalAt number) old new from mid to wrote c = only_calls_on w.writes from mid to wrote c
blames_on r w (BadLineAt number) old new from mid to wrote c = only_calls_on w.writes from mid to wrote c
blames_on r w AlreadyTwo old new from mid to wrote c = only_calls_on w.writes from mid to wrote c
blames_on r w ReadFault old new from mid to wrote c = (c.0, only_calls_on w.writes from mid to wrote c.1)
blames_on r w WriteFault old new from mid to wrote c = failed_on w.writes w.fails from mid to wrote c
blames_on r w NoRoom old new from mid to wrote c = only_calls_on w.writes from mid to wrote c
