use Rattle.std.proofs.Common.{map, take}
use Rattle.regex_hir.specs.Meaning.{meaning}
use Rattle.ds_pattern.specs.Narrow.{EachSame}
use Rattle.ds_pattern.proofs.narrow.+narrowed.Given as goal

abbrev pub invariant-all_narrowed-loop-i : goal.invariant-all_narrowed-loop-i
invariant-all_narrowed-loop-i l = EachSame (map meaning l.all.items) (map meaning (take l.i l.trees))
