-- The effects of an exchange. p to q is the pass at the first desk, which reads, and r to s the one at the second, which merges.
use Rattle.std.specs.Prelude.{◌≡◌, List, length, Option}
use Rattle.history.specs.declared.entry.Entry.{Entry}
use Rattle.ds_feed.specs.declared.cursor.Cursor.{Cursor}
use Rattle.ds_machine.specs.declared.command.Command.{Command}
use Rattle.ds_machine.specs.declared.reply.Reply.{Reply}
use Rattle.desk_store.specs.Called.{Made}
use Rattle.desk_store.specs.Record.{HasLegalHistory, PassRecord}
use Rattle.desk_store.specs.Seat.{IsSameSeat, SeatRecord}
use Rattle.desk_store.specs.declared.exchange.Exchanged.{Exchanged}
use Rattle.desk_store.specs.Telling.{AsksInTurn, EndsTelling, all_told}
use Rattle.desk_store.specs.Giving.{GivesAll, GivesOnly}

-- Whether only the questions of an exchange were called, and only the items of their replies were merged.
pub record ExchangesOnly (p q r s : PassRecord) (from : Option Cursor) : Type 0 where
  pub own : List (Entry Command Reply)
  pub made : Made p q own
  pub asks : AsksInTurn from own
  pub gives : GivesOnly r s (all_told own)

-- Like `ExchangesOnly`, for two seats.
abbrev pub SeatsExchangeOnly : SeatRecord → SeatRecord → SeatRecord → SeatRecord → Option Cursor → Type 0
SeatsExchangeOnly a b c d from = IsSameSeat a b × IsSameSeat c d × ExchangesOnly a.pass b.pass c.pass d.pass from

-- Whether all questions were answered, and all items of their replies were merged and counted.
pub record Exchanges (p q r s : PassRecord) (from : Option Cursor) (x : Exchanged) : Type 0 where
  pub own : List (Entry Command Reply)
  pub made : Made p q own
  pub legal : HasLegalHistory q
  pub asks : AsksInTurn from own
  pub ends : EndsTelling from own x.cursor x.more
  pub gives : GivesAll r s (all_told own) x.taken
  pub done : x.done ≡ length (all_told own)
