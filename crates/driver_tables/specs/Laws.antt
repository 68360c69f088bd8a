-- The laws of every run of calls on a table that began empty.
use Rattle.std.specs.Prelude.{◌≡◌, ◌≤◌, ℕ, ◌==◌, Bool, true, false, List, [], ◌∷◌, length, Some, Ok, ◌⊎◌}
use Rattle.std.specs.List.{find, list_any, flat_map, AllByRecursion}
use Rattle.ds_names.specs.Endpoint.{EndpointRecord}
use Rattle.driver_tables.specs.declared.moves.Ending.TheVariants.{Done}
use Rattle.driver_tables.specs.declared.moves.Move.{Move}
use Rattle.driver_tables.specs.declared.moves.Move.TheVariants.{Start, Send, Answer}
use Rattle.driver_tables.specs.declared.device.Class.TheVariants.{Block}
use Rattle.driver_tables.specs.Driver.{Driver, driver_of}
use Rattle.driver_tables.specs.Label.{endpoint_now, newest}
use Rattle.driver_tables.specs.DriverTable.{DriverTable, Request, empty_table, values_of, last_sent, is_for}
use Rattle.driver_tables.specs.Doing.{sends_of, answered_by}
use Rattle.driver_tables.specs.Run.{Call, Entry, TableStep, TableRun, all_moves_in, requests_in}
use Rattle.driver_tables.specs.Run.{Reply}

-- The table's requests, sends and answers follow from the calls and their answers.
abbrev pub ListsTell : Type 0
ListsTell = (entries : List Entry) (t : DriverTable) → TableRun empty_table entries t →
    (t.requests ≡ requests_in entries) × (t.sends ≡ flat_map sends_of (all_moves_in entries)) ×
    (t.answers ≡ flat_map answered_by (all_moves_in entries))

-- A law: each id is answered at most once.
abbrev pub AnswersOnce : Type 0
AnswersOnce = (entries : List Entry) (t : DriverTable) → TableRun empty_table entries t → (id : ℕ) → length (values_of id t.answers) ≤ 1

-- Whether the move answers the id with Done.
abbrev pub is_done : ℕ → Move → Bool
is_done id (Answer i Done) = i == id
is_done id _ = false

-- A law: only a reply from the endpoint to which the request was last sent answers Done.
abbrev pub DoneByItsDriver : Type 0
DoneByItsDriver =
    (entries : List Entry) (t u : DriverTable) (call : Call) (moves : List Move) (id : ℕ) → TableRun empty_table entries t →
    TableStep t call (Ok moves) u → list_any (is_done id) moves ≡ true →
    (endpoint : EndpointRecord) × (call ≡ Reply endpoint id) × (last_sent t.sends id ≡ Some endpoint)

-- The unit's driver has the endpoint now, and its label had no greater generation.
pub record IsLiving (t : DriverTable) (unit : ℕ) (endpoint : EndpointRecord) : Type 0 where
  pub driver : Driver
  pub found : driver_of t.units unit ≡ Some driver
  pub now : endpoint_now t.states driver.label ≡ Some endpoint
  pub greatest : newest t.states driver.label ≡ Some endpoint.generation

-- A Start goes to the living driver of its port, a Send to that of its request's unit.
abbrev pub GoesToLiving : DriverTable → Move → Type 0
GoesToLiving t (Start unit endpoint) = IsLiving t unit endpoint
GoesToLiving t (Send id endpoint) = (r : Request) × (find (is_for id) t.requests ≡ Some r) × IsLiving t r.unit endpoint
GoesToLiving t _ = Unit {0}

abbrev pub NoneToOlder : Type 0
NoneToOlder =
    (entries : List Entry) (t u : DriverTable) (call : Call) (moves : List Move) → TableRun empty_table entries t →
    TableStep t call (Ok moves) u → AllByRecursion (GoesToLiving u) moves

-- The greatest generation of a label never falls.
abbrev pub NewestRises : Type 0
NewestRises =
    (t u : DriverTable) (entries : List Entry) (label : List ℕ) (g : ℕ) → TableRun t entries u → newest t.states label ≡ Some g →
    (h : ℕ) × (newest u.states label ≡ Some h) × (g ≤ h)

-- The request was answered Done once; or it has no answer, and was last sent to the driver's endpoint now, if there is
-- one.
abbrev pub IsRequestKept : DriverTable → Request → Driver → Type 0
IsRequestKept t r d =
    (values_of r.id t.answers ≡ Done ∷ []) ⊎
    ((values_of r.id t.answers ≡ []) ×
    ((endpoint : EndpointRecord) → endpoint_now t.states d.label ≡ Some endpoint → last_sent t.sends r.id ≡ Some endpoint))

-- A law: no request to a block driver is lost.
abbrev pub BlockRequestsAreKept : Type 0
BlockRequestsAreKept =
    (entries : List Entry) (t : DriverTable) → TableRun empty_table entries t →
    AllByRecursion (λ (r : Request). (d : Driver) → driver_of t.units r.unit ≡ Some d → d.class ≡ Block → IsRequestKept t r d) t.requests
