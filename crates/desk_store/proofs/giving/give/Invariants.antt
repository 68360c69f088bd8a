use Rattle.std.proofs.Common.{◌≡◌, List, ◌++◌, length}
use Rattle.ds_entry.specs.declared.item.Item.{Item}
use Rattle.desk_store.specs.Seat.{IsSameSeat}
use Rattle.desk_store.specs.Giving.{GivesAll}
use Rattle.desk_store.proofs.giving.give.Given as goal

-- what isn't left was given
abbrev pub invariant-loop-rest : goal.invariant-loop-rest
invariant-loop-rest g l =
    let s = g.S.ClientSeat.seat in
    IsSameSeat (s l.fn.seat) (s l.seat) × ((front : List Item) × GivesAll (s l.fn.seat).pass (s l.seat).pass front l.taken ×
    (front ++ l.rest ≡ l.fn.items))

abbrev pub decreases-loop-rest : goal.decreases-loop-rest
decreases-loop-rest g l = length l.rest
