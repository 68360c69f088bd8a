-- What opening a desk and its seats does, and the causes of each refusal.
use Rattle.std.specs.Prelude.{◌≡◌, ◌≢◌, ◌⊎◌, ℕ, ◌<◌, ◌≤◌, [], ◌∷◌, ◌++◌, None}
use Rattle.std.specs.Arc.{arc_value}
use Rattle.ds_machine.specs.declared.refusal.Refusal.{Refusal}
use Rattle.ds_machine.specs.declared.refusal.Refusal.TheVariants.{TooMany}
use Rattle.ds_store.specs.Opening.{IsOpenRefusal}
use Rattle.c_desk.specs.declared.board.Board.{Board}
use Rattle.c_desk.specs.declared.board.SeatFault.{SeatFault}
use Rattle.c_desk.specs.declared.board.SeatFault.TheVariants.{Spent, NoRoom}
use Rattle.c_desk.specs.declared.seat.Seat.{Seat}
use Rattle.c_desk.specs.Fresh.{IsFreshPass}

-- Whether the refusal is the first that applies: TooMany unless there are 1 to 64 seats, and then the store's.
abbrev pub IsBoardRefusal : Refusal → ℕ → ℕ → ℕ → Type 0
IsBoardRefusal TooMany first ring seats = (seats ≡ 0) ⊎ (64 < seats)
IsBoardRefusal refusal first ring seats = (0 < seats) × (seats ≤ 64) × IsOpenRefusal refusal first ring

-- Whether the seat got the last of the passes, which has seen and called nothing. The others stay.
pub record TakesSeat (old : Board) (seat : Seat) (new : Board) : Type 0 where
  pub desk : arc_value seat.desk ≡ arc_value old.desk
  pub pass : old.passes.items ≡ new.passes.items ++ seat.pass ∷ []
  pub fresh : IsFreshPass (arc_value old.desk) seat.pass
  pub last : seat.last ≡ None

-- Whether the fault is the first that applies: Spent if no pass is left.
abbrev pub IsSeatFault : SeatFault → Board → Type 0
IsSeatFault Spent board = board.passes.items ≡ []
IsSeatFault NoRoom board = board.passes.items ≢ []
