use Rattle.std.proofs.Common.{◌≡◌, ◌∙◌, ◌+◌, Bool, Some, cond, sym, subst, ap, drop, arith}
use Rattle.std.specs.List.{slice_get}
use Rattle.std.specs.Option.{option_copied}
use Rattle.rs_core.specs.Renewal.{first_left_out}
use Rattle.rs_core.proofs.RenewalLemmas.{left_out-step}
use Rattle.rs_core.proofs.rs.renewing.first_left_out.Goals as goal

pub returns-then-is_left_out : goal.returns-then-is_left_out
returns-then-is_left_out c =
    let ss = c.args.services.now in
    let i = c.loop-i.i in
    let at : slice_get ss i ≡ Some c.in-Some.service.now = sym (subst (λ o. option_copied o ≡ slice_get ss i) c.in-Some.is c.get.ensures) in
    let rest = first_left_out c.args.new.now (i + 1) (drop (i + 1) ss) (drop (i + 1) c.args.states.now) in
    sym (left_out-step c.args.new.now ss c.args.states.now i c.in-Some.service.now c.index-states-i.result (omega arith) (omega arith) at
    c.index-states-i.is
    ∙ ap (λ (b : Bool). cond b (Some i) rest) (sym c.is_left_out.ensures ∙ c.if-is_left_out.true)) ∙ c.loop-i.invariant

pub loop-i-preserved : goal.loop-i-preserved
loop-i-preserved c =
    let ss = c.args.services.now in
    let i = c.loop-i.i in
    let at : slice_get ss i ≡ Some c.in-Some.service.now = sym (subst (λ o. option_copied o ≡ slice_get ss i) c.in-Some.is c.get.ensures) in
    let rest = first_left_out c.args.new.now (i + 1) (drop (i + 1) ss) (drop (i + 1) c.args.states.now) in
    sym (left_out-step c.args.new.now ss c.args.states.now i c.in-Some.service.now c.index-states-i.result (omega arith) (omega arith) at
    c.index-states-i.is
    ∙ ap (λ (b : Bool). cond b (Some i) rest) (sym c.is_left_out.ensures ∙ c.if-is_left_out.false)) ∙ c.loop-i.invariant
