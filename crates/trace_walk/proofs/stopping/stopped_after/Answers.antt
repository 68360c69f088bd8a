use Rattle.std.proofs.Common.{refl}
use Rattle.trace_walk.proofs.stopping.stopped_after.Goals as goal

pub returns-in-Merged-clause-stops : goal.returns-in-Merged-clause-stops
returns-in-Merged-clause-stops c = let m = c.in-Merged in (m.done, m.taken, m.stale, m.owed, m.is, refl)

pub returns-in_default-clause-fails : goal.returns-in_default-clause-fails
returns-in_default-clause-fails c = (refl, c.in_default.not-Merged)
