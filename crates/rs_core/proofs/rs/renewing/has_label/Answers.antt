use Rattle.std.proofs.Common.{◌≡◌, ◌∙◌, ◌||◌, ◌+◌, Bool, Some, sym, subst, ap, drop, arith}
use Rattle.std.specs.List.{slice_get}
use Rattle.std.specs.Option.{option_copied}
use Rattle.rs_core.specs.Renewal.{has_label}
use Rattle.rs_core.proofs.RenewalLemmas.{has_label-step}
use Rattle.rs_core.proofs.rs.renewing.has_label.Goals as goal

pub returns-then-eq : goal.returns-then-eq
returns-then-eq c =
    let ss = c.args.services.now in
    let at : slice_get ss c.loop-i.i ≡ Some c.in-Some.service.now =
    sym (subst (λ o. option_copied o ≡ slice_get ss c.loop-i.i) c.in-Some.is c.get.ensures) in
    ap (λ (b : Bool). b || has_label (drop (c.loop-i.i + 1) ss) c.args.label.now) (sym c.if-eq.true ∙ c.eq.ensures)
    ∙ sym (has_label-step ss c.args.label.now c.loop-i.i c.in-Some.service.now at (omega arith)) ∙ c.loop-i.invariant

pub loop-i-preserved : goal.loop-i-preserved
loop-i-preserved c =
    let ss = c.args.services.now in
    let at : slice_get ss c.loop-i.i ≡ Some c.in-Some.service.now =
    sym (subst (λ o. option_copied o ≡ slice_get ss c.loop-i.i) c.in-Some.is c.get.ensures) in
    ap (λ (b : Bool). b || has_label (drop (c.loop-i.i + 1) ss) c.args.label.now) (sym c.if-eq.false ∙ c.eq.ensures)
    ∙ sym (has_label-step ss c.args.label.now c.loop-i.i c.in-Some.service.now at (omega arith)) ∙ c.loop-i.invariant
