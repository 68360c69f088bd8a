use Rattle.std.proofs.Common.{None, inl, inr, refl, subst, sym, ◌∙◌}
use Rattle.ds_live.specs.Dismissed.{IsLeft, KeepsOwn}
use Rattle.ds_live.specs.Workers.{plain}
use Rattle.ds_live.proofs.WorkerLemmas.{is_back}
use Rattle.ds_live.proofs.FailLemmas.{finished_own, none_of}
use Rattle.ds_live.proofs.LeftLemmas.{left_still, own_still}
use Rattle.ds_live.proofs.dismissing.finish.Goals as goal

-- after an earlier fault the worker is unchanged
pub returns-then-is_some-clause-back : goal.returns-then-is_some-clause-back
returns-then-is_some-clause-back g c = is_back c.args.worker.now

pub returns-then-is_some-clause-left : goal.returns-then-is_some-clause-left
returns-then-is_some-clause-left g c = left_still c.args.fault (plain c.args.worker.now)

pub returns-then-is_some-clause-own : goal.returns-then-is_some-clause-own
returns-then-is_some-clause-own g c = own_still c.args.fault c.args.worker.now.fault

-- a worker that finished
pub returns-in-Ok-clause-left : goal.returns-in-Ok-clause-left
returns-in-Ok-clause-left g c =
    let none = none_of c.args.fault c.is_some.result c.is_some.ensures c.if-is_some.false in
    subst (λ f. IsLeft f (plain c.args.worker.now) (plain c.finish.new.self)) (sym none)
    (inr (inl (c.in-Ok.ensures.done, c.finish.ensures.kept)))

pub returns-in-Ok-clause-own : goal.returns-in-Ok-clause-own
returns-in-Ok-clause-own g c =
    let none = none_of c.args.fault c.is_some.result c.is_some.ensures c.if-is_some.false in
    subst (λ f. KeepsOwn f None c.args.worker.now.fault c.finish.new.self.fault) (sym none) c.finish.ensures.kept

-- a worker that can't finish keeps its fault
pub returns-in-Err-clause-back : goal.returns-in-Err-clause-back
returns-in-Err-clause-back g c = let back = c.finish.ensures.back in record {
  same_index = back.same_index;
  same_turns = back.same_turns;
  same_others = back.same_others;
  called = back.called;
  still = λ first second is. (let of = back.still first second is in record { pass = of.pass; task = of.task });
}

pub returns-in-Err-clause-left : goal.returns-in-Err-clause-left
returns-in-Err-clause-left g c =
    let none = none_of c.args.fault c.is_some.result c.is_some.ensures c.if-is_some.false in
    rw none (inr (inr (c.in-Err.fault, c.in-Err.ensures.fault, refl)))

pub returns-in-Err-clause-done : goal.returns-in-Err-clause-done
returns-in-Err-clause-done g c =
    let v = plain c.args.worker.now in let w = plain c.finish.new.self in
    let own = (finished_own v.pass w.pass v.task w.task c.in-Err.fault c.in-Err.ensures.fault).0 in
    rw (c.own_fault.ensures ∙ own) tt

pub returns-in-Err-clause-own : goal.returns-in-Err-clause-own
returns-in-Err-clause-own g c =
    let none = none_of c.args.fault c.is_some.result c.is_some.ensures c.if-is_some.false in
    let v = plain c.args.worker.now in let w = plain c.finish.new.self in
    let own = (finished_own v.pass w.pass v.task w.task c.in-Err.fault c.in-Err.ensures.fault).0 in
    rw (none, c.own_fault.ensures ∙ own) own
