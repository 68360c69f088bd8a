use Rattle.std.proofs.Common.{◌≡◌, ◌∙◌, ◌+◌, Bool, ap, sym, subst, arith, Some, drop}
use Rattle.std.specs.Prelude.{◌||◌}
use Rattle.std.specs.List.{slice_get}
use Rattle.std.specs.Option.{option_copied}
use Rattle.rs_core.specs.Reading.{any_due, is_due, is_from}
use Rattle.rs_core.proofs.ReadingLemmas.{any_due-step, any_due-end, or_assoc, or_false}
use Rattle.rs_core.proofs.due.first_due.Goals as goal

pub loop-i-preserved : goal.loop-i-preserved
loop-i-preserved c = λ tick le.
    let ss = c.args.services.now in
    let ts = c.args.states.now in
    let i = c.loop-i.i in
    let at : slice_get ss i ≡ Some c.in-Some.service.now = sym (subst (λ o. option_copied o ≡ slice_get ss i) c.in-Some.is c.get.ensures) in
    let one = any_due-step tick i ss ts c.in-Some.service.now c.index-states-i.result (omega arith) (omega arith) at c.index-states-i.is in
    let own = c.due_of.ensures tick le in
    let both = c.earlier-first.ensures tick in
    let rest = any_due tick (drop (i + 1) ss) (drop (i + 1) ts) in
    ap (λ (b : Bool). b || rest) (both ∙ ap (λ (b : Bool). is_from c.loop-i.first tick || b) (sym own))
    ∙ or_assoc (is_from c.loop-i.first tick) (is_due tick c.in-Some.service.now c.index-states-i.result) rest
    ∙ ap (λ (b : Bool). is_from c.loop-i.first tick || b) (sym one)
    ∙ c.loop-i.invariant tick le

pub returns : goal.returns
returns c = λ tick le.
    sym (c.loop-i.invariant tick le)
    ∙ ap (λ (b : Bool). is_from c.loop-i.first tick || b)
    (any_due-end tick c.loop-i.i c.args.services.now c.args.states.now (omega arith) (omega arith))
    ∙ or_false (is_from c.loop-i.first tick)
