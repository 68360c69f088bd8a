use Rattle.std.proofs.Common.{◌≡◌, refl, subst, arith}
use Rattle.ds_line.proofs.SixteenLemmas.{IsSpelled, spelled_first, spelled_more, spelled_all}
use Rattle.ds_line.proofs.hex_digits.digits_of.Goals as goal

pub loop-at-init : goal.loop-at-init
loop-at-init c = spelled_first c.args.bytes.now _ refl

pub loop-at-preserved : goal.loop-at-preserved
loop-at-preserved c =
    spelled_more c.args.bytes.now c.loop-at.digits c.loop-at.at c.digit_of.result c.digit_of-in-loop-at.result c.loop-at.invariant
    c.loop-at-test.true c.told-bytes c.digit_of.ensures c.digit_of-in-loop-at.ensures

pub returns : goal.returns
returns c =
    let end : c.loop-at.at ≡ 16 = omega (arith, c.loop-at-test.false, c.loop-at.auto.at-end) in
    spelled_all c.args.bytes.now c.loop-at.digits (subst (IsSpelled c.args.bytes.now c.loop-at.digits) end c.loop-at.invariant) c.told-bytes
