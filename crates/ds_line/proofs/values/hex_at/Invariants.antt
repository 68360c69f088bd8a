use Rattle.ds_line.proofs.HexLemmas.{IsPaired}
use Rattle.ds_line.proofs.values.hex_at.Given as goal

abbrev pub invariant-loop-len : goal.invariant-loop-len
invariant-loop-len l = IsPaired l.bytes l.block l.rest l.len
