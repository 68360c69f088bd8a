use Rattle.std.proofs.Common.{◌≡◌, ◌∙◌, Some, sym, subst, arith}
use Rattle.std.specs.List.{slice_get}
use Rattle.std.specs.Option.{option_copied}
use Rattle.rs_core.proofs.FindLemmas.{first_found, first_passed}
use Rattle.rs_core.proofs.finding.place_of.Goals as goal

pub returns-then-is_sought-clause-value : goal.returns-then-is_sought-clause-value
returns-then-is_sought-clause-value c =
    let ss = c.args.services.now in
    let at : slice_get ss c.loop-i.i ≡ Some c.in-Some.service.now =
    sym (subst (λ o. option_copied o ≡ slice_get ss c.loop-i.i) c.in-Some.is c.get.ensures) in
    sym (first_found c.args.what.now c.loop-i.i ss c.args.states.now c.in-Some.service.now c.index-states-i.result (omega arith)
    (omega arith) at c.index-states-i.is (sym c.is_sought.ensures ∙ c.if-is_sought.true)) ∙ c.loop-i.invariant

pub loop-i-preserved : goal.loop-i-preserved
loop-i-preserved c =
    let ss = c.args.services.now in
    let at : slice_get ss c.loop-i.i ≡ Some c.in-Some.service.now =
    sym (subst (λ o. option_copied o ≡ slice_get ss c.loop-i.i) c.in-Some.is c.get.ensures) in
    sym (first_passed c.args.what.now c.loop-i.i ss c.args.states.now c.in-Some.service.now c.index-states-i.result (omega arith)
    (omega arith) at c.index-states-i.is (sym c.is_sought.ensures ∙ c.if-is_sought.false)) ∙ c.loop-i.invariant
