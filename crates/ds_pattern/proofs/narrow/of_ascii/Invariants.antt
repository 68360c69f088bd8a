use Rattle.std.proofs.Common.{take}
use Rattle.ds_pattern.specs.Narrow.{SameAscii}
use Rattle.ds_pattern.proofs.narrow.of_ascii.Given as goal

abbrev pub invariant-loop-i : goal.invariant-loop-i
invariant-loop-i l = SameAscii l.ranges.items (take l.i l.class.ranges.items)
