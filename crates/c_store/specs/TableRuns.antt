-- The calls on a driver table from C are a run of the table, so the laws of driver tables hold of them.
use Rattle.std.specs.Prelude.{◌≡◌, ◌⊎◌, ◌≤◌, ◌==◌, ℕ, List, [], ◌∷◌, ◌++◌, length, Option, Some, None, Result, Err, MatchOption}
use Rattle.std.specs.List.{flat_map, AllByRecursion}
use Rattle.std.specs.Map.{lookup}
use Rattle.ds_names.specs.Endpoint.{EndpointRecord}
use Rattle.ds_names.specs.Key.{label_key}
use Rattle.ds_entry.specs.Change.{ChangeRecord}
use Rattle.ds_entry.specs.Left.{endpoint_in}
use Rattle.ds_entry.specs.declared.item.Item.{Item}
use Rattle.ds_machine.specs.Parts.{held_at}
use Rattle.driver_tables.specs.declared.device.Class.{Class}
use Rattle.driver_tables.specs.declared.device.Class.TheVariants.{Block}
use Rattle.driver_tables.specs.declared.device.Device.{Device}
use Rattle.driver_tables.specs.declared.fault.TableFault.{TableFault}
use Rattle.driver_tables.specs.declared.fault.TableFault.TheVariants.{NoRoom}
use Rattle.driver_tables.specs.declared.moves.Ending.{Ending}
use Rattle.driver_tables.specs.declared.moves.Ending.TheVariants.{Done}
use Rattle.driver_tables.specs.declared.moves.Move.{Move}
use Rattle.driver_tables.specs.Doing.{sends_of, answered_by}
use Rattle.driver_tables.specs.DriverTable.{DriverTable, Request, values_of, last_sent}
use Rattle.driver_tables.specs.Reply.{replying}
use Rattle.driver_tables.specs.Run.{Call, Entry, TableRun, all_moves_in, moves_in, one_move}
use Rattle.driver_tables.specs.Run as calls
use Rattle.driver_tables.specs.Stands.{TableStands}
use Rattle.rs_to_store.specs.Following.{Follows, labels_of}
use Rattle.rs_to_store.specs.Submitting.{FollowsAndTakes, all_in}
use Rattle.c_values.specs.declared.answer.Answer.{Answer}
use Rattle.c_values.specs.Answer.{no_request}
use Rattle.c_values.specs.Request.{endpoint_at}
use Rattle.c_store.specs.declared.server_table.ServerTable.{ServerTable}
use Rattle.c_store.specs.Answers.{told_call, told_moves}
use Rattle.c_store.specs.Calls.{IsEmptyTable, class_for}
use Rattle.c_store.specs.Drivers.{kept, driver_with, server_number}
use Rattle.c_store.specs.Following.{fault_in}
use Rattle.c_store.specs.NoOlder.{GoesToNoneOlder, unit_label}
use Rattle.c_store.specs.TableTurns.{TableCall, Assign, Follow, Submit, Reply}
use Rattle.c_store.specs.TableTurns.{AnsweredCall, LeadsByCall, AnsweredCalls, moves_of_turns, accepted}

-- ---- what a call from C is to the table

-- The table has no call, and the answer is that there isn't a request.
pub record IsNoCall (answer : Answer) (part : List Entry) : Type 0 where
  pub none : part ≡ []
  pub told : answer ≡ no_request

-- The table has one call, whose answer C gets.
pub record IsOneCall (call : Call) (answer : Answer) (part : List Entry) : Type 0 where
  pub said : Result (List Move) TableFault
  pub one : part ≡ record { call = call; answer = said } ∷ []
  pub told : answer ≡ told_call said

-- The table has one reply, whose answer C gets, and which takes no memory.
pub record IsOneReply (t : DriverTable) (id : ℕ) (answer : Answer) (part : List Entry) (endpoint : EndpointRecord) : Type 0 where
  pub call : IsOneCall (calls.Reply endpoint id) answer part
  pub exact : call.said ≡ one_move (replying t endpoint id).0

-- The table gets the state that the map has of a label.
abbrev pub IsOfMap : List Item → Entry → Type 0
IsOfMap held entry = (label : List ℕ) × (c : ChangeRecord) × (held_at held (label_key label) ≡ Some c) ×
    (entry.call ≡ calls.Changed label (endpoint_in c.body))

-- The table follows the map from its first label to its last, unless memory runs out, and gets what the map has. C gets these moves, and
-- why the follow ended early, if it did.
pub record IsFollow (held : List Item) (t : DriverTable) (answer : Answer) (moves : List Move) (part : List Entry) (u : DriverTable)
    : Type 0 where
  pub rounds : List (List Move)
  pub stop : Option TableFault
  pub follows : Follows held (labels_of t) t rounds stop u
  pub of_map : AllByRecursion (IsOfMap held) part
  pub moves_are : moves ≡ all_in rounds
  pub told : answer ≡ told_moves moves stop

-- The table gets the request, with this answer. Or memory ran out for the map, and the table doesn't get the request.
abbrev pub HasRequest : Option TableFault → ℕ → ℕ → Result (List Move) TableFault → List Entry → Type 0
HasRequest None id unit said part = part ≡ record { call = calls.Submit id unit; answer = said } ∷ []
HasRequest (Some stop) id unit said part = (part ≡ []) × (said ≡ Err NoRoom)

-- The table follows the map, gets what the map has, and then the request. C gets the moves of both, and why the request isn't accepted, if
-- it isn't.
pub record IsSubmission (held : List Item) (id unit : ℕ) (t : DriverTable) (answer : Answer) (moves : List Move) (part : List Entry)
    (u : DriverTable) : Type 0 where
  pub rounds : List (List Move)
  pub said : Result (List Move) TableFault
  pub takes : FollowsAndTakes held id unit t rounds said u
  pub states : List Entry
  pub own : List Entry
  pub part_is : part ≡ states ++ own
  pub of_map : AllByRecursion (IsOfMap held) states
  pub request : HasRequest takes.stop id unit said own
  pub moves_are : moves ≡ all_in rounds ++ moves_in said
  pub told : answer ≡ told_moves moves (fault_in said)

-- What each call from C is to the table, which its part leads from `t` to `u`. The server's classes are those of `first`.
abbrev pub IsOfCall : ServerTable → DriverTable → TableCall → Answer → List Move → List Entry → DriverTable → Type 0
IsOfCall first t (Assign unit class label) answer moves part u =
    MatchOption (class_for first class label) (IsNoCall answer part)
    (λ (of : Class). IsOneCall (calls.Assign unit (driver_with label of)) answer part)
IsOfCall first t (Follow held) answer moves part u = IsFollow held t answer moves part u
IsOfCall first t (Submit held id unit) answer moves part u = IsSubmission held id unit t answer moves part u
IsOfCall first t (Reply generation slot id) answer moves part u =
    MatchOption (endpoint_at generation slot) (IsNoCall answer part) (IsOneReply t id answer part)

-- ---- turns and runs

-- A turn's part of a run: what its call is to the table, with the moves that C has of it.
pub record IsPartOfCall (first : ServerTable) (t : DriverTable) (turn : AnsweredCall) (part : List Entry) (u : DriverTable) : Type 0 where
  pub run : TableRun t part u
  pub of_call : IsOfCall first t turn.call turn.answer turn.moves part u
  pub moves : turn.moves ≡ all_moves_in part

-- Each turn has a part, which leads to the table of the next.
abbrev pub ArePartsOfCalls : ServerTable → DriverTable → List AnsweredCall → List (List Entry) → DriverTable → Type 0
ArePartsOfCalls first t [] [] u = t ≡ u
ArePartsOfCalls first t (turn ∷ turns) (part ∷ parts) u =
    (mid : DriverTable) × IsPartOfCall first t turn part mid × ArePartsOfCalls first mid turns parts u
ArePartsOfCalls first t _ _ u = ⊥

-- The parts, one after another, are a run of the table, and C's table stands for the one that it leads to. The server is that of `first`.
pub record IsRunOfTurns (first : ServerTable) (t : DriverTable) (turns : List AnsweredCall) (last : ServerTable) : Type 0 where
  pub parts : List (List Entry)
  pub table : DriverTable
  pub each : ArePartsOfCalls first t turns parts table
  pub run : TableRun t (flat_map (λ (part : List Entry). part) parts) table
  pub stands : TableStands (kept last.drivers) table
  pub server : server_number last.drivers ≡ server_number first.drivers

-- A law: the calls on a table from C are such a run, from each table that C's table stands for; from the empty one, if it is new.
abbrev pub TurnsAreRuns : Type 0
TurnsAreRuns = (first last : ServerTable) (turns : List AnsweredCall) (t : DriverTable) →
    TableStands (kept first.drivers) t → AnsweredCalls first turns last → IsRunOfTurns first t turns last

-- ---- what C sees of its requests

-- The endings with which moves answer an id.
abbrev pub endings_of : List Move → ℕ → List Ending
endings_of moves id = values_of id (flat_map answered_by moves)

-- A law: each id is answered at most once, in all moves of a table.
abbrev pub AnsweredOnce : Type 0
AnsweredOnce = (server : ℕ) (first last : ServerTable) (turns : List AnsweredCall) (id : ℕ) →
    IsEmptyTable server first → AnsweredCalls first turns last → length (endings_of (moves_of_turns turns) id) ≤ 1

-- The moves answer the request Done. Or they don't answer it, and the last that sends it goes to where the driver is now, if it lives.
abbrev pub IsKeptBy : List Move → Request → Device → Type 0
IsKeptBy moves r d =
    (endings_of moves r.id ≡ Done ∷ [])
    ⊎ ((endings_of moves r.id ≡ []) ×
    ((e : EndpointRecord) → d.endpoint ≡ Some e → last_sent (flat_map sends_of moves) r.id ≡ Some e))

-- The request's unit has a driver. If this is a block driver, the request is kept.
abbrev pub IsKeptIn : List (ℕ × Device) → List Move → Request → Type 0
IsKeptIn devices moves r = (d : Device) × (lookup (λ u. r.unit == u) devices ≡ Some d) × (d.class ≡ Block → IsKeptBy moves r d)

-- A law: no accepted request to a block driver is lost.
abbrev pub RequestsAreKept : Type 0
RequestsAreKept = (server : ℕ) (first last : ServerTable) (turns : List AnsweredCall) →
    IsEmptyTable server first → AnsweredCalls first turns last →
    AllByRecursion (IsKeptIn (kept last.drivers).devices (moves_of_turns turns)) (accepted turns)

-- ---- where the moves go

-- The items of the map that a call follows, if it follows one.
abbrev pub map_of_call : TableCall → Option (List Item)
map_of_call (Follow held) = Some held
map_of_call (Submit held id unit) = Some held
map_of_call _ = None

-- A law: no move of a follow or a submission goes to an older instance than the map has, from any table that C's table stands for.
abbrev pub GoesToNoOlderInstance : Type 0
GoesToNoOlderInstance = (old new : ServerTable) (turn : AnsweredCall) (held : List Item) (t : DriverTable) →
    TableStands (kept old.drivers) t → LeadsByCall old turn new → map_of_call turn.call ≡ Some held →
    AllByRecursion (GoesToNoneOlder held (unit_label (kept new.drivers)) (t.requests ++ accepted (turn ∷ []))) turn.moves

-- A law: nor does any, whatever C called since the table was new. What it sends is an accepted request.
abbrev pub NoneGoesToOlderInstance : Type 0
NoneGoesToOlderInstance = (server : ℕ) (first mid last : ServerTable) (turns : List AnsweredCall) (turn : AnsweredCall) (held : List Item) →
    IsEmptyTable server first → AnsweredCalls first turns mid → LeadsByCall mid turn last → map_of_call turn.call ≡ Some held →
    AllByRecursion (GoesToNoneOlder held (unit_label (kept last.drivers)) (accepted (turns ++ turn ∷ []))) turn.moves
