use Rattle.std.proofs.Common.{arith}
use Rattle.desk_rule.proofs.SeatLemmas.{note_joins}
use Rattle.desk_rule.proofs.seat.join_note.Goals as goal

pub join_seat-requires : goal.join_seat-requires
join_seat-requires g c = let at = c.requires.at in let n = c.requires.note in
    (at.0, n.at.0, n.no_slot, omega arith, note_joins _ _ _ _ _ _ _ _ _ c.requires.no_pass n.resting)
