use Rattle.std.proofs.Common.{◌≡◌, map, take}
use Rattle.ds_held.specs.Kept.{floored}
use Rattle.ds_held.specs.Join.{AreMerged}
use Rattle.ds_held.proofs.join.raise_all.Given as goal

abbrev pub invariant-loop-floor : goal.invariant-loop-floor
invariant-loop-floor l = (l.done ≡ l.floor-index) × AreMerged l.fn.held (take l.done (map floored l.other)) l.held
