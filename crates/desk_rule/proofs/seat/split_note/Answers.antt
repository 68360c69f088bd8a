use Rattle.std.proofs.Common.{arith}
use Rattle.desk_rule.proofs.SeatLemmas.{note_splits}
use Rattle.desk_rule.proofs.seat.split_note.Goals as goal

pub split_seat-requires : goal.split_seat-requires
split_seat-requires g c = let at = c.requires in (at.0, omega arith, note_splits _ _ _ _ _ _ _)
