-- What a call at a seat does to the seat, and its answer.
use Rattle.std.specs.Prelude.{◌≡◌, ◌⊎◌, ℕ, ◌<◌, ◌≤◌, ◌^◌, List, [], Option, None, Some}
use Rattle.std.specs.declared.boxed.Box.{Box}
use Rattle.history.specs.History.{Stepped}
use Rattle.desk_rule.specs.Free.{TurnWasTaken}
use Rattle.desk.specs.declared.desk.Taken.{Taken}
use Rattle.desk.specs.Calls.{Calls, PostsOwed, SameNotices, Sees, Takes, next_place}
use Rattle.ds_machine.specs.Owed.{owed_by}
use Rattle.ds_machine.specs.declared.command.Command.{Command}
use Rattle.ds_machine.specs.declared.reply.Reply.{Reply}
use Rattle.ds_store.specs.Turns.{Turn}
use Rattle.ds_content.specs.Content.{ContentRecord}
use Rattle.c_values.specs.declared.request.Request.{Request}
use Rattle.c_values.specs.declared.answer.Answer.{Answer}
use Rattle.c_values.specs.Answer.{answer_of, no_request, told_no_room}
use Rattle.c_values.specs.Asked.{ReadingTakesMemory, StandsFor, StandsForNone}
use Rattle.c_values.specs.Pieces.{pieces_of}
use Rattle.c_desk.specs.declared.calling.Asked.{Asked}
use Rattle.c_desk.specs.declared.calling.Asked.TheVariants.{Done, Busy, Worn}
use Rattle.c_desk.specs.declared.seat.Seat.{Seat}

-- Whether the content is that of the store on the heap.
abbrev pub has_content : {Z : Type 0} → Box ContentRecord Z → ContentRecord → Type 0
has_content m content = m.value ≡ content

-- The pieces of text of the last reply.
abbrev pub pieces_at : Option Reply → List (List ℕ)
pieces_at None = []
pieces_at (Some reply) = pieces_of reply

-- Whether the seat made one call. Its reply is the last of a legal history that the seat has now seen. The history begins with all that
-- it had seen before, and has of this seat's calls exactly those that it made. The bits that the reply owes were posted after the call.
pub record AsksAtSeat (old : Seat) (command : Command) (answer : Answer) (place : ℕ) (new : Seat) : Type 0 where
  pub reply : Reply
  pub called : Calls has_content Turn old.pass new.pass command reply place
  pub below : place < 2 ^ 62
  pub posted : PostsOwed old.pass new.pass place (owed_by reply)
  pub told : answer ≡ answer_of reply
  pub kept : new.last ≡ Some reply

-- Whether the places of the answer and of the call, and the last reply, are unchanged.
abbrev pub LeavesAnswer : Seat → Answer → ℕ → Answer → ℕ → Seat → Type 0
LeavesAnswer old before at answer place new = (answer ≡ before) × (place ≡ at) × (new.last ≡ old.last)

-- Whether the seat called and posted nothing, since some seat held the turn or took it first. It has seen as much as before, or more.
pub record SeatIsBusy (old : Seat) (new : Seat) : Type 0 where
  pub sees : Sees has_content Turn old.pass new.pass
  pub unnoticed : SameNotices old.pass new.pass
  pub taken : TurnWasTaken (Stepped has_content Turn) owed_by old.pass.seat.me.0

-- Whether the seat called and posted nothing, since no place is left.
pub record SeatIsWorn (old : Seat) (new : Seat) : Type 0 where
  pub sees : Sees has_content Turn old.pass new.pass
  pub unnoticed : SameNotices old.pass new.pass
  pub full : next_place new.pass ≡ 2 ^ 62

-- The effect of a command, by its result.
abbrev pub AsksIfTurnIsFree : Seat → Command → Answer → ℕ → Answer → ℕ → Asked → Seat → Type 0
AsksIfTurnIsFree old command before at answer place Done new = AsksAtSeat old command answer place new
AsksIfTurnIsFree old command before at answer place Busy new = SeatIsBusy old new × LeavesAnswer old before at answer place new
AsksIfTurnIsFree old command before at answer place Worn new = SeatIsWorn old new × LeavesAnswer old before at answer place new

-- Whether the seat answered so without a call. The pass and the place of the call are unchanged, and no reply is kept.
abbrev pub TellsWithoutCall : Seat → Answer → Answer → Asked → Seat → Type 0
TellsWithoutCall old told answer asked new = (answer ≡ told) × (asked ≡ Done) × (new.pass ≡ old.pass) × (new.last ≡ None)

abbrev pub DeclinesAtSeat : Seat → Answer → Asked → Seat → Type 0
DeclinesAtSeat old answer asked new = TellsWithoutCall old no_request answer asked new

abbrev pub RefusesForRoom : Seat → Answer → Asked → Seat → Type 0
RefusesForRoom old answer asked new = TellsWithoutCall old told_no_room answer asked new

-- Whether the request is a command, which the seat sends if the turn is free.
pub record SendsRequest (old : Seat) (r : Request) (text : List ℕ) (before : Answer) (at : ℕ) (answer : Answer) (place : ℕ) (asked : Asked)
    (new : Seat) : Type 0 where
  pub command : Command
  pub is : StandsFor r text command
  pub sent : AsksIfTurnIsFree old command before at answer place asked new

-- The effect of a request with this text.
abbrev pub SeatAnswersText : Seat → Request → List ℕ → Answer → ℕ → Answer → ℕ → Asked → Seat → Type 0
SeatAnswersText old r text before at answer place asked new =
    SendsRequest old r text before at answer place asked new
    ⊎ ((StandsForNone r text × DeclinesAtSeat old answer asked new × (place ≡ at))
    ⊎ (ReadingTakesMemory r text × RefusesForRoom old answer asked new × (place ≡ at)))

-- The effect of a request whose text is in the texts. If they don't have its text, it isn't a command.
abbrev pub SeatAnswers : Seat → Request → Option (List ℕ) → Answer → ℕ → Answer → ℕ → Asked → Seat → Type 0
SeatAnswers old r None before at answer place asked new = DeclinesAtSeat old answer asked new × (place ≡ at)
SeatAnswers old r (Some text) before at answer place asked new = SeatAnswersText old r text before at answer place asked new

-- The effect of a take. `None` for a server from 16 on.
abbrev pub TakesNotices : Seat → ℕ → Option Taken → Seat → Type 0
TakesNotices old server None new = (16 ≤ server) × (new.pass ≡ old.pass) × (new.last ≡ old.last)
TakesNotices old server (Some taken) new = Takes has_content Turn owed_by old.pass new.pass server taken × (new.last ≡ old.last)
