use Rattle.std.proofs.Common.{◌≡◌, ◌++◌, map, take}
use Rattle.ds_held.specs.Kept.{floored}
use Rattle.ds_held.proofs.reading.add_floors.Given as goal

abbrev pub invariant-loop-floor : goal.invariant-loop-floor
invariant-loop-floor l = l.items ≡ l.fn.items ++ map floored (take l.floor-index l.floors)
