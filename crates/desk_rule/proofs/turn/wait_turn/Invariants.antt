use Rattle.desk_rule.proofs.WaitLemmas.{Waits}
use Rattle.desk_rule.proofs.turn.wait_turn.Given as goal

abbrev pub invariant-loop : goal.invariant-loop
invariant-loop g l = (goal.iterator-loop g).can_next l.iterator' × (goal.iterator-loop g).is_finite l.iterator' ×
    Waits l.initial.seat l.seat
