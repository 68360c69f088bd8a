use Rattle.desk_store.specs.Seat.{IsSameSeat}
use Rattle.desk_store.specs.KeepsUp.{KeepsUpWith}
use Rattle.ds_live.specs.Turns.{HasGoneOn}
use Rattle.ds_live.proofs.following.bring_up_at.Given as goal

abbrev pub invariant-loop : goal.invariant-loop
invariant-loop g l = record {
  next : (goal.iterator-loop g).can_next l.iterator' × (goal.iterator-loop g).is_finite l.iterator';
  seat : IsSameSeat l.fn.seat l.seat;
  gone : HasGoneOn l.fn.seat.pass l.seat.pass l.fn.follower l.follower;
  keeps : KeepsUpWith l.seat.pass l.follower;
}
