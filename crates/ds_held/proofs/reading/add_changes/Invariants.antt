use Rattle.std.proofs.Common.{◌≡◌, ◌++◌, map, take}
use Rattle.ds_held.specs.Held.{change_item}
use Rattle.ds_held.proofs.reading.add_changes.Given as goal

abbrev pub invariant-loop-i : goal.invariant-loop-i
invariant-loop-i l = l.items ≡ l.fn.items ++ map change_item (take l.i l.changes)
