-- Seats by plain values.
use Rattle.std.specs.Prelude.{◌≡◌}
use Rattle.std.specs.Borrow.{GName}
use Rattle.desk_store.specs.Record.{PassRecord}

-- A seat: the name of the pass's loan, and the pass.
pub record SeatRecord : Type 0 where
  pub lent : GName
  pub pass : PassRecord

-- The seat with these parts.
abbrev pub seat_of : GName → PassRecord → SeatRecord
seat_of lent pass = record { lent = lent; pass = pass }

-- Whether both are the same seat at two times. Its pass may have seen and called more.
abbrev pub IsSameSeat : SeatRecord → SeatRecord → Type 0
IsSameSeat s t = t.lent ≡ s.lent
