-- The sort of line that must be where a verdict names one.
use Rattle.std.proofs.Common.{List, ℕ}
use Rattle.trace_walk.specs.declared.fault.WalkFault.{WalkFault}
use Rattle.trace_walk.specs.declared.fault.WalkFault.TheVariants.{IllegalAt, BadLineAt, ReadFault, NoRoom}
use Rattle.trace_walk.specs.declared.wrong_line.Wanted.{Wanted}
use Rattle.trace_walk.specs.Walking.{IsFault, verdict_of}
use Rattle.trace_walk.specs.Wanting.{IsWanted}
use Rattle.trace_check.specs.Telling.{WantsSort}

-- a fault of a walk, and the line that the walk wants
pub wanted_for : (start bytes : List ℕ) (sort : Wanted) (fault : WalkFault) → IsFault start bytes fault → IsWanted bytes sort fault →
    WantsSort bytes sort (verdict_of fault)
wanted_for start bytes sort (IllegalAt number) f wanted = (f.0, f.1, f.2)
wanted_for start bytes sort (BadLineAt number) f wanted = wanted
wanted_for start bytes sort ReadFault f wanted = tt
wanted_for start bytes sort NoRoom f wanted = tt
