use Rattle.ds_line.proofs.SixteenLemmas.{IsJudged}
use Rattle.ds_line.proofs.hex_digits.numbers_of.Given as goal

abbrev pub invariant-loop-at : goal.invariant-loop-at
invariant-loop-at l = IsJudged l.digits l.numbers l.digits_alone l.at
