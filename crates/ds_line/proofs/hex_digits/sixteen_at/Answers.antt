use Rattle.std.proofs.Common.{◌≡◌, ℕ, List, ◌++◌, length, take, sym, ap, subst, ◌∙◌, arith}
use Rattle.std.proofs.lemmas.List.{length-take-le, take-append-drop}
use Rattle.ds_line.specs.Numbers.{AreNumbersOf}
use Rattle.ds_line.proofs.SixteenLemmas.{IsWritten, written_first, written_more, written_all, written_each}
use Rattle.ds_line.proofs.hex_digits.sixteen_at.Goals as goal

pub loop-at-init : goal.loop-at-init
loop-at-init c = written_first (take 32 c.args.bytes.now) c.args.block.now c.told-block

pub loop-at-preserved : goal.loop-at-preserved
loop-at-preserved c =
    let are : AreNumbersOf (take 32 c.args.bytes.now) 32 c.in_ok-numbers.numbers =
    subst (λ (d : List ℕ). AreNumbersOf d 32 c.in_ok-numbers.numbers) c.in_ok-digits.ensures.cases.0 c.in_ok-numbers.ensures in
    let len : length (take 32 c.args.bytes.now) ≡ 32 = length-take-le 32 c.args.bytes.now (omega (arith, c.in_ok-digits.ensures.cases.2)) in
    written_more (take 32 c.args.bytes.now) c.in_ok-numbers.numbers c.loop-at.block c.loop-at.at c.loop-at.invariant c.loop-at-test.true
    len are

pub returns-clause-found : goal.returns-clause-found
returns-clause-found c =
    let end : c.loop-at.at ≡ 16 = omega (arith, c.loop-at-test.false, c.loop-at.auto.at-end) in
    let len : length (take 32 c.args.bytes.now) ≡ 32 = length-take-le 32 c.args.bytes.now (omega (arith, c.in_ok-digits.ensures.cases.2)) in
    let whole : c.args.bytes.now ≡ take 32 c.args.bytes.now ++ c.in_ok-digits.rest.now =
    sym (take-append-drop 32 c.args.bytes.now) ∙ ap (λ (t : List ℕ). take 32 c.args.bytes.now ++ t) (sym c.in_ok-digits.ensures.cases.1) in
    written_all (take 32 c.args.bytes.now) c.loop-at.block c.in_ok-digits.rest.now c.args.bytes.now
    (subst (IsWritten (take 32 c.args.bytes.now) c.loop-at.block) end c.loop-at.invariant) len whole

pub returns-clause-each : goal.returns-clause-each
returns-clause-each c =
    let end : c.loop-at.at ≡ 16 = omega (arith, c.loop-at-test.false, c.loop-at.auto.at-end) in
    written_each (take 32 c.args.bytes.now) c.loop-at.block
    (subst (IsWritten (take 32 c.args.bytes.now) c.loop-at.block) end c.loop-at.invariant)
