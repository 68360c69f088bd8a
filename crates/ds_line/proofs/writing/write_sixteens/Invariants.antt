use Rattle.std.proofs.Common.{◌*◌}
use Rattle.ds_line.proofs.SixteenLemmas.{IsWrittenOut}
use Rattle.ds_line.proofs.writing.write_sixteens.Given as goal

abbrev pub invariant-loop-group : goal.invariant-loop-group
invariant-loop-group l = IsWrittenOut l.blob l.block (16 * l.group)
