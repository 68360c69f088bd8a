use Rattle.ds_line.proofs.SixteenLemmas.{IsSpelled}
use Rattle.ds_line.proofs.hex_digits.digits_of.Given as goal

abbrev pub invariant-loop-at : goal.invariant-loop-at
invariant-loop-at l = IsSpelled l.bytes l.digits l.at
