use Rattle.node_supervisor.proofs.TellLemmas.{ahead_holds_not, plan_holds, refused_holds_not}
use Rattle.node_supervisor.proofs.telling.holds_by.Goals as goal

pub returns-then-may_give : goal.returns-then-may_give
returns-then-may_give c =
    ahead_holds_not c.args.rs.now c.args.keeper.now.next c.args.keeper.now.file c.args.tick c.args.event.now c.may_give.result
    c.may_give.ensures
    c.if-may_give.true

pub returns-in-Ok : goal.returns-in-Ok
returns-in-Ok c =
    plan_holds c.args.rs.now c.args.keeper.now.next c.args.keeper.now.file c.args.tick c.args.event.now c.in-Ok.plan c.is_held.result
    c.in-Ok.ensures.plan c.is_held.ensures

pub returns-in-Err : goal.returns-in-Err
returns-in-Err c =
    refused_holds_not c.args.rs.now c.args.keeper.now.next c.args.keeper.now.file c.args.tick c.args.event.now c.in-Err.field-0
    c.in-Err.ensures.refused
