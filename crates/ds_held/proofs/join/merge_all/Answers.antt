use Rattle.std.proofs.Common.{◌++◌, map, refl, sym, subst, arith}
use Rattle.ds_held.specs.Held.{change_item}
use Rattle.ds_held.specs.Join.{IsJoinStopped}
use Rattle.ds_held.proofs.JoinLemmas.{goes_on, stops, stops_later}
use Rattle.ds_held.proofs.join.merge_all.Goals as goal

pub returns-in-Err-clause-stopped : goal.returns-in-Err-clause-stopped
returns-in-Err-clause-stopped c = λ start front w e.
    subst (λ n. IsJoinStopped start (front ++ map change_item c.args.other.now) c.merge_copy.new.self
    (record { done = n; fault = c.in-Err.fault })) (sym c.loop-i.invariant.0)
    (stops_later start front (map change_item c.args.other.now) c.args.held.now c.merge_copy.new.self c.args.before c.loop-i.i
    c.in-Err.fault w e
    (stops change_item c.args.held.now c.args.other.now c.loop-i.held c.loop-i.i c.loop-i.i refl c.loop-i.invariant.1
    c.at-change.result.now (omega (arith, c.loop-i-test.true, c.len-i-end.ensures)) c.at-change.ensures c.merge_copy.new.self
    c.in-Err.fault c.in-Err.ensures.refused c.in-Err.ensures.after))

pub loop-i-preserved : goal.loop-i-preserved
loop-i-preserved c = (
  omega (arith, c.loop-i.invariant.0),
  goes_on change_item c.args.held.now c.args.other.now c.loop-i.held c.loop-i.i c.loop-i.i refl c.loop-i.invariant.1
      c.at-change.result.now (omega (arith, c.loop-i-test.true, c.len-i-end.ensures)) c.at-change.ensures c.merge_copy.new.self
      c.in-Ok.field-0 c.in-Ok.ensures.answer c.in-Ok.ensures.after,
)
