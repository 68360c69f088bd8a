use Rattle.desk_store.specs.Seat.{IsSameSeat}
use Rattle.desk_store.specs.Refresh.{FollowerIsLed, HasGone, KeepsMap}
use Rattle.desk_store.proofs.refreshing.refresh.Given as goal

-- this number of calls was made, none ended the refresh, and they lead the follower
abbrev pub invariant-loop-made : goal.invariant-loop-made
invariant-loop-made g l =
    let s = g.S.StoreSeat.seat in
    IsSameSeat (s l.fn.seat) (s l.seat) × HasGone (s l.fn.seat).pass (s l.seat).pass l.fn.follower l.follower l._made
    × KeepsMap (s l.fn.seat).pass (s l.seat).pass l.fn.follower l.follower
    × FollowerIsLed (s l.fn.seat).pass (s l.seat).pass l.fn.follower l.follower
