use Rattle.std.proofs.Common.{arith}
use Rattle.desk_rule.proofs.SeatLemmas.{pass_joins}
use Rattle.desk_rule.proofs.seat.join_pass.Goals as goal

pub join_seat-requires : goal.join_seat-requires
join_seat-requires g c = let at = c.requires.at in let n = c.requires.other in
    (at.0, n.at.0, n.no_slot, omega arith, pass_joins _ _ _ _ _ _ _ _ _ n.resting)
