-- Runs of calls on a driver table.
use Rattle.std.specs.Prelude.{◌≡◌, ℕ, List, [], ◌∷◌, Option, Some, None, Result, Ok, Err, OnOk, OnErr}
use Rattle.std.specs.List.{flat_map, filter_map}
use Rattle.ds_names.specs.Endpoint.{EndpointRecord}
use Rattle.history.specs.History.{Path}
use Rattle.driver_tables.specs.declared.moves.Move.{Move}
use Rattle.driver_tables.specs.declared.fault.TableFault.{TableFault}
use Rattle.driver_tables.specs.Driver.{Driver}
use Rattle.driver_tables.specs.DriverTable.{DriverTable, Request}
use Rattle.driver_tables.specs.Answer.{IsAnswer}
use Rattle.driver_tables.specs.Assign.{assigning}
use Rattle.driver_tables.specs.Changed.{changing}
use Rattle.driver_tables.specs.Submit.{submitting}
use Rattle.driver_tables.specs.Reply.{replying}

pub data Call : Type 0 where
  Assign : (unit : ℕ) → (driver : Driver) → Call
  Changed : (label : List ℕ) → (state : Option EndpointRecord) → Call
  Submit : (id unit : ℕ) → Call
  Reply : (endpoint : EndpointRecord) → (id : ℕ) → Call

-- A call's answer as a list of moves, for calls with no move and with one.
abbrev pub no_moves : Result (Unit {0}) TableFault → Result (List Move) TableFault
no_moves (Ok done) = Ok []
no_moves (Err fault) = Err fault

abbrev pub one_move : Result Move TableFault → Result (List Move) TableFault
one_move (Ok m) = Ok (m ∷ [])
one_move (Err fault) = Err fault

-- The answer to a call, and the table after it.
abbrev pub table_outcome : DriverTable → Call → Result (List Move) TableFault × DriverTable
table_outcome t (Assign unit driver) = (no_moves (assigning t unit driver).0, (assigning t unit driver).1)
table_outcome t (Changed label state) = changing t label state
table_outcome t (Submit id unit) = (one_move (submitting t id unit).0, (submitting t id unit).1)
table_outcome t (Reply endpoint id) = (one_move (replying t endpoint id).0, (replying t endpoint id).1)

-- A step: an accepted call leaves the outcome's table, a refused one leaves the table unchanged.
pub record TableStep (t : DriverTable) (call : Call) (answer : Result (List Move) TableFault) (u : DriverTable) : Type 0 where
  pub answer_is : IsAnswer (table_outcome t call).0 answer
  pub after : OnOk answer (u ≡ (table_outcome t call).1)
  pub unchanged : OnErr answer (u ≡ t)

pub record Entry : Type 0 where
  pub call : Call
  pub answer : Result (List Move) TableFault

-- A path of such steps, one for each entry.
abbrev pub TableRun : DriverTable → List Entry → DriverTable → Type 0
TableRun = Path (λ t entry u. TableStep t entry.call entry.answer u)

-- ---- the calls' answers

abbrev pub moves_in : Result (List Move) TableFault → List Move
moves_in (Ok moves) = moves
moves_in (Err fault) = []

-- The moves of a run, in order.
abbrev pub all_moves_in : List Entry → List Move
all_moves_in entries = flat_map (λ (e : Entry). moves_in e.answer) entries

-- The request of an accepted submit.
abbrev pub request_in : Call → Result (List Move) TableFault → Option Request
request_in (Submit id unit) (Ok moves) = Some (record { id = id; unit = unit })
request_in _ _ = None

abbrev pub requests_in : List Entry → List Request
requests_in entries = filter_map (λ (e : Entry). request_in e.call e.answer) entries
