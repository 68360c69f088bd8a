use Rattle.desk_store.specs.Seat.{IsSameSeat}
use Rattle.desk_store.specs.Asking.{GoesByPages}
use Rattle.desk_store.proofs.exchange.exchange_pages.Given as goal

-- pages were read and merged
abbrev pub invariant-loop : goal.invariant-loop
invariant-loop g l =
    let a = g.A.ClientSeat.seat in
    let b = g.B.ClientSeat.seat in
    (goal.iterator-loop g).can_next l.iterator' × (goal.iterator-loop g).is_finite l.iterator' × IsSameSeat (a l.fn.a) (a l.a) ×
    IsSameSeat (b l.fn.b) (b l.b)
    × GoesByPages (a l.fn.a).pass (a l.a).pass (b l.fn.b).pass (b l.b).pass l.after l.first l.done l.taken
