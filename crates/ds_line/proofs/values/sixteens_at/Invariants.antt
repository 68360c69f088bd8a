use Rattle.std.proofs.Common.{◌*◌}
use Rattle.ds_line.proofs.HexLemmas.{IsPaired}
use Rattle.ds_line.proofs.values.sixteens_at.Given as goal

abbrev pub invariant-loop-group : goal.invariant-loop-group
invariant-loop-group l = IsPaired l.bytes l.block l.rest (16 * l.group)
