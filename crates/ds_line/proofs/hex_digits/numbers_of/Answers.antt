use Rattle.std.proofs.Common.{◌&&◌, nat_lt, refl, arith}
use Rattle.std.proofs.lemmas.Bool.{and_parts}
use Rattle.std.proofs.lemmas.Bool.Decides.{nat_tests}
use Rattle.ds_line.proofs.SixteenLemmas.{judged_first, judged_more}
use Rattle.ds_line.proofs.hex_digits.numbers_of.Goals as goal

pub loop-at-init : goal.loop-at-init
loop-at-init c = judged_first c.args.digits.now _ refl

pub loop-at-preserved : goal.loop-at-preserved
loop-at-preserved c =
    let alone = c.loop-at.digits_alone in
    let number = c.number_of-number.result in
    judged_more c.args.digits.now c.loop-at.numbers alone (alone && nat_lt number 16) c.loop-at.at number c.loop-at.invariant
    c.loop-at-test.true c.number_of-number.ensures.number
    (λ t. let parts = and_parts alone (nat_lt number 16) t in (parts.0, grind (arith, nat_tests, parts.1)))

pub returns-then-digits_alone : goal.returns-then-digits_alone
returns-then-digits_alone c = λ i lt. c.loop-at.invariant.are c.if-digits_alone.true i (omega (arith, lt, c.loop-at-test.false))
