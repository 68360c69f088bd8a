use Rattle.desk_rule.proofs.WaitLemmas.{Waits}
use Rattle.desk_rule.proofs.free_call.try_turn.Given as goal

abbrev pub invariant-loop : goal.invariant-loop
invariant-loop g l = Waits l.initial.seat l.seat
