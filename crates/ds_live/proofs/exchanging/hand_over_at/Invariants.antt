use Rattle.std.proofs.Common.{ℕ}
use Rattle.ds_live.specs.Turns.{HasLeftMore, SeatHasCalled}
use Rattle.ds_live.proofs.exchanging.hand_over_at.Given as goal

abbrev pub invariant-loop : goal.invariant-loop
invariant-loop g l = (goal.iterator-loop g).can_next l.iterator' × (goal.iterator-loop g).is_finite l.iterator' ×
    SeatHasCalled l.fn.first l.first × SeatHasCalled l.fn.second l.second
    × ((count : ℕ) × HasLeftMore count l.fn.first.pass l.first.pass l.fn.second.pass l.second.pass l.fn.cursor l.cursor)
