use Rattle.history.specs.History.{Stepped}
use Rattle.desk_rule.proofs.FreeLemmas.{finds_no_turn}
use Rattle.desk_rule.proofs.free_call.call_if_free.Goals as goal

pub returns-in-Err-clause-missed : goal.returns-in-Err-clause-missed
returns-in-Err-clause-missed g c =
    finds_no_turn (Stepped g.M.Machine.stands g.M.Machine.steps) g.M.Machine.owes c.args.seat.now _ c.in-Err.stop c.try_turn.ensures.same
    c.in-Err.ensures.missed
