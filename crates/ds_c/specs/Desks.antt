-- What the calls on the handles of a desk and of its seats return, and what they leave in them.
use Rattle.std.specs.Prelude.{◌≡◌, ℕ, List, length, drop, Option, None, Some, MatchOption}
use Rattle.std.specs.Arc.{arc_value}
use Rattle.desk.specs.Desk.{first_call, opened_with}
use Rattle.desk.specs.declared.desk.Taken.{Taken}
use Rattle.ds_content.specs.Stands.{ContentStands}
use Rattle.ds_held.specs.Limits.{larger}
use Rattle.ds_machine.specs.State.{opening}
use Rattle.ds_machine.specs.declared.refusal.Refusal.{Refusal}
use Rattle.c_values.specs.declared.request.Request.{Request}
use Rattle.c_values.specs.declared.answer.Answer.{Answer}
use Rattle.c_values.specs.declared.giving.Given.{Given}
use Rattle.c_values.specs.Answer.{refusal_number}
use Rattle.c_values.specs.Asked.{request_text}
use Rattle.c_values.specs.Pieces.{GivesPieces}
use Rattle.c_desk.specs.declared.board.Board.{Board}
use Rattle.c_desk.specs.declared.board.SeatFault.{SeatFault}
use Rattle.c_desk.specs.declared.board.SeatFault.TheVariants.{Spent, NoRoom}
use Rattle.c_desk.specs.declared.calling.Asked.{Asked}
use Rattle.c_desk.specs.declared.calling.Asked.TheVariants.{Done, Busy, Worn}
use Rattle.c_desk.specs.declared.seat.Seat.{Seat}
use Rattle.c_desk.specs.Board.{IsBoardRefusal, IsSeatFault, TakesSeat}
use Rattle.c_desk.specs.Calls.{SeatAnswers, TakesNotices, pieces_at}
use Rattle.ds_c.specs.Calls.{done, is_closed, is_open}

-- The numbers that these calls return, besides those of other calls.
abbrev pub bad_sub : ℕ
bad_sub = 1

abbrev pub worn : ℕ
worn = 19

abbrev pub no_memory : ℕ
no_memory = 20

abbrev pub is_busy : ℕ
is_busy = 44

abbrev pub no_seat : ℕ
no_seat = 45

-- ---- opening a desk

-- Whether the word is the number of a refusal for which no desk is opened with these numbers.
pub record IsDeskWord (first ring seats word : ℕ) : Type 0 where
  pub refusal : Refusal
  pub why : IsBoardRefusal refusal first ring seats
  pub word_is : word ≡ refusal_number refusal

-- Whether a desk is opened over a store in the machine's opening state, or none, for the first cause that applies.
abbrev pub OpenedDesk : ℕ → ℕ → ℕ → ℕ → ℕ → Option Board → Type 0
OpenedDesk incarnation first ring seats word None = IsDeskWord first ring seats word
OpenedDesk incarnation first ring seats word (Some b) =
    (word ≡ done) × ContentStands (opened_with (arc_value b.desk)).value (opening incarnation first ring larger)
    × (first_call (arc_value b.desk) ≡ 0) × (length b.passes.items ≡ seats)

-- The effect of a call that opens a desk. An open handle is unchanged.
abbrev pub OpensDesk : ℕ → ℕ → ℕ → ℕ → Option Board → ℕ → Option Board → Type 0
OpensDesk incarnation first ring seats None word new = OpenedDesk incarnation first ring seats word new
OpensDesk incarnation first ring seats (Some old) word new = (word ≡ is_open) × (new ≡ Some old)

-- ---- opening a seat

abbrev pub seat_word : SeatFault → ℕ
seat_word Spent = no_seat
seat_word NoRoom = no_memory

-- Whether no seat is opened, for the first cause that applies. The passes of the desk are unchanged.
pub record RefusesSeat (old : Board) (word : ℕ) (new : Board) : Type 0 where
  pub fault : SeatFault
  pub why : IsSeatFault fault old
  pub word_is : word ≡ seat_word fault
  pub same : new.passes.items ≡ old.passes.items

-- Whether a seat of the desk is opened, or none.
abbrev pub SeatsIn : Board → ℕ → Board → Option Seat → Type 0
SeatsIn old word new None = (new.desk ≡ old.desk) × RefusesSeat old word new
SeatsIn old word new (Some seat) = (new.desk ≡ old.desk) × (word ≡ done) × TakesSeat old seat new

abbrev pub SeatsAt : Board → ℕ → Option Board → Option Seat → Type 0
SeatsAt old word None seat = ⊥
SeatsAt old word (Some new) seat = SeatsIn old word new seat

-- The effect of a call that opens a seat. If the seat's handle is open or the desk's is closed, both are unchanged.
abbrev pub OpensSeat : Option Board → Option Seat → ℕ → Option Board → Option Seat → Type 0
OpensSeat desk (Some old) word desk_after new = (word ≡ is_open) × (desk_after ≡ desk) × (new ≡ Some old)
OpensSeat None None word desk_after new = (word ≡ is_closed) × (desk_after ≡ None) × (new ≡ None)
OpensSeat (Some board) None word desk_after new = SeatsAt board word desk_after new

-- ---- calls at a seat

abbrev pub asked_word : Asked → ℕ
asked_word Done = done
asked_word Busy = is_busy
asked_word Worn = worn

-- Whether the seat of an open handle carries out a request, or the word says why not.
pub record SeatCalls (old : Seat) (r : Request) (texts : List ℕ) (before : Answer) (at word : ℕ) (answer : Answer) (place : ℕ) (new : Seat)
    : Type 0 where
  pub asked : Asked
  pub word_is : word ≡ asked_word asked
  pub desk : new.desk ≡ old.desk
  pub called : SeatAnswers old r (request_text r texts) before at answer place asked new

abbrev pub CalledAt : Seat → Request → List ℕ → Answer → ℕ → ℕ → Answer → ℕ → Option Seat → Type 0
CalledAt old r texts before at word answer place None = ⊥
CalledAt old r texts before at word answer place (Some new) = SeatCalls old r texts before at word answer place new

-- The effect of a call at a seat. If the handle is closed, it and the places of the answer are unchanged.
abbrev pub CallsAtSeat : Option Seat → Request → List ℕ → Answer → ℕ → ℕ → Answer → ℕ → Option Seat → Type 0
CallsAtSeat None r texts before at word answer place new = (word ≡ is_closed) × (answer ≡ before) × (place ≡ at) × (new ≡ None)
CallsAtSeat (Some old) r texts before at word answer place new = CalledAt old r texts before at word answer place new

-- The effect of a call that copies the text of the last answer. If the handle is closed, nothing is copied.
abbrev pub FetchesAtSeat : Option Seat → ℕ → List ℕ → Given → ℕ → List ℕ → Given → Type 0
FetchesAtSeat None first old before word room given = (word ≡ is_closed) × (room ≡ old) × (given ≡ before)
FetchesAtSeat (Some s) first old before word room given = (word ≡ done) × GivesPieces (drop first (pieces_at s.last)) old given room

-- ---- notices

-- Whether the seat of an open handle takes all that is pending for a server; or there is no such server, and the places are unchanged.
pub record SeatTakes (old : Seat) (server before at word bits floor : ℕ) (new : Seat) : Type 0 where
  pub taken : Option Taken
  pub desk : new.desk ≡ old.desk
  pub took : TakesNotices old server taken new
  pub told : MatchOption taken ((word ≡ bad_sub) × (bits ≡ before) × (floor ≡ at))
      (λ t. (word ≡ done) × (bits ≡ t.bits) × (floor ≡ t.floor))

abbrev pub TookAt : Seat → ℕ → ℕ → ℕ → ℕ → ℕ → ℕ → Option Seat → Type 0
TookAt old server before at word bits floor None = ⊥
TookAt old server before at word bits floor (Some new) = SeatTakes old server before at word bits floor new

-- The effect of a take at a seat. If the handle is closed, it and the places are unchanged.
abbrev pub TakesAtSeat : Option Seat → ℕ → ℕ → ℕ → ℕ → ℕ → ℕ → Option Seat → Type 0
TakesAtSeat None server before at word bits floor new = (word ≡ is_closed) × (bits ≡ before) × (floor ≡ at) × (new ≡ None)
TakesAtSeat (Some old) server before at word bits floor new = TookAt old server before at word bits floor new

-- ---- closing a desk

-- Whether the desk of an open handle is closed, or busy and unchanged.
abbrev pub ClosedDesk : Board → ℕ → Option Board → Type 0
ClosedDesk old word None = word ≡ done
ClosedDesk old word (Some new) = (word ≡ is_busy) × (new ≡ old)

abbrev pub ClosesDesk : Option Board → ℕ → Option Board → Type 0
ClosesDesk None word new = (word ≡ is_closed) × (new ≡ None)
ClosesDesk (Some old) word new = ClosedDesk old word new
