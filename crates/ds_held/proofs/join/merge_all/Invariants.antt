use Rattle.std.proofs.Common.{◌≡◌, ◌+◌, map, take}
use Rattle.ds_held.specs.Held.{change_item}
use Rattle.ds_held.specs.Join.{AreMerged}
use Rattle.ds_held.proofs.join.merge_all.Given as goal

abbrev pub invariant-loop-i : goal.invariant-loop-i
invariant-loop-i l = (l.done ≡ l.before + l.i) × AreMerged l.fn.held (take l.i (map change_item l.other)) l.held
