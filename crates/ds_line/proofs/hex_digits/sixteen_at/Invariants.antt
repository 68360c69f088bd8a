use Rattle.std.proofs.Common.{take}
use Rattle.ds_line.proofs.SixteenLemmas.{IsWritten}
use Rattle.ds_line.proofs.hex_digits.sixteen_at.Given as goal

abbrev pub invariant-loop-at : goal.invariant-loop-at
invariant-loop-at l = IsWritten (take 32 l.bytes) l.block l.at
