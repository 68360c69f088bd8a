-- Lists of calls on a driver table from C.
use Rattle.std.specs.Prelude.{if◌then◌else◌, ◌≡◌, ◌==◌, ℕ, List, Option, Some, None}
use Rattle.std.specs.List.{filter_map, flat_map}
use Rattle.ds_entry.specs.declared.item.Item.{Item}
use Rattle.history.specs.History.{Path}
use Rattle.driver_tables.specs.declared.moves.Move.{Move}
use Rattle.driver_tables.specs.DriverTable.{Request}
use Rattle.c_values.specs.declared.answer.Answer.{Answer}
use Rattle.c_store.specs.declared.server_table.ServerTable.{ServerTable}
use Rattle.c_store.specs.Calls.{TableAssigns, TableFollows, TableSubmits, TableReplies}

-- A call on a table, with what C passes. Of a map, that is the items that it holds.
pub data TableCall : Type 0 where
  Assign : (unit class : ℕ) → (label : List ℕ) → TableCall
  Follow : (held : List Item) → TableCall
  Submit : (held : List Item) → (id unit : ℕ) → TableCall
  Reply : (generation slot id : ℕ) → TableCall

-- Whether the call answers, and leaves the table, as its clause says.
abbrev pub CallAnswers : TableCall → ServerTable → Answer → ServerTable → Type 0
CallAnswers (Assign unit class label) old answer new = TableAssigns unit class label old answer new
CallAnswers (Follow held) old answer new = TableFollows held old answer new
CallAnswers (Submit held id unit) old answer new = TableSubmits held id unit old answer new
CallAnswers (Reply generation slot id) old answer new = TableReplies generation slot id old answer new

-- A turn: a call, its answer, and the moves that it leaves for C.
pub record AnsweredCall : Type 0 where
  pub call : TableCall
  pub answer : Answer
  pub moves : List Move

-- Whether a turn leads from one table to another: the answer is the call's, and the moves are those that the table then keeps.
pub record LeadsByCall (old : ServerTable) (turn : AnsweredCall) (new : ServerTable) : Type 0 where
  pub takes : CallAnswers turn.call old turn.answer new
  pub moves : turn.moves ≡ new.moves

-- Whether the turns lead from one table to another, in order.
abbrev pub AnsweredCalls : ServerTable → List AnsweredCall → ServerTable → Type 0
AnsweredCalls = Path LeadsByCall

-- The moves of turns, in order.
abbrev pub moves_of_turns : List AnsweredCall → List Move
moves_of_turns turns = flat_map (λ (turn : AnsweredCall). turn.moves) turns

-- The request that a call submits, if it isn't refused.
abbrev pub accepted_by : TableCall → Answer → Option Request
accepted_by (Submit held id unit) answer = if answer.refusal == 0 then Some (record { id = id; unit = unit }) else None
accepted_by _ answer = None

-- The accepted requests, in order.
abbrev pub accepted : List AnsweredCall → List Request
accepted turns = filter_map (λ (turn : AnsweredCall). accepted_by turn.call turn.answer) turns
