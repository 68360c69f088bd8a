-- Where the Sends and Starts of a turn go: none goes to an older generation.
use Rattle.std.specs.Prelude.{◌≡◌, ◌⊎◌, ℕ, ◌≤◌, ◌<◌, Bool, true, false, ◌||◌, List, [], ◌∷◌, ◌++◌, Option, Some, None, is_some, Contains}
use Rattle.std.specs.List.{find, filter_map, flat_map}
use Rattle.std.specs.Option.{option_map, option_and_then}
use Rattle.ds_names.specs.Endpoint.{EndpointRecord}
use Rattle.ds_names.specs.Key.{label_key}
use Rattle.ds_entry.specs.Change.{ChangeRecord}
use Rattle.ds_entry.specs.Left.{endpoint_in}
use Rattle.ds_entry.specs.declared.item.Item.{Item}
use Rattle.ds_machine.specs.Parts.{held_at}
use Rattle.rs_settings.specs.Settings.{SettingsRecord}
use Rattle.driver_tables.specs.declared.moves.Move.{Move}
use Rattle.driver_tables.specs.declared.moves.Move.TheVariants.{Start, Send, Answer, Held}
use Rattle.driver_tables.specs.Driver.{Driver, driver_of, has_label}
use Rattle.driver_tables.specs.DriverTable.{DriverTable, Request, is_for}
use Rattle.driver_tables.specs.Label.{endpoint_now, newest, is_old_for}
use Rattle.ds_replica.specs.declared.seed.Seed.{Seed}
use Rattle.rs_to_store.specs.News.{is_old_tombstone}
use Rattle.ds_system.specs.declared.event.Table.{Table}
use Rattle.ds_system.specs.declared.event.Table.TheVariants.{File, Net}
use Rattle.ds_system.specs.declared.event.SystemEvent.{SystemEvent}
use Rattle.ds_system.specs.declared.event.SystemEvent.TheVariants.{Follow, Submit}
use Rattle.ds_system.specs.declared.outcome.SystemOutcome.{SystemOutcome}
use Rattle.ds_system.specs.declared.outcome.SystemOutcome.TheVariants.{Moved}
use Rattle.ds_system.specs.System.{System, table_at, followed_items}
use Rattle.ds_system.specs.Turn.{TableTurn, round_moves, request_moves, turn_moves}
use Rattle.ds_system.specs.Steps.{turn_in}
use Rattle.ds_system.specs.Happening.{SystemEntry, SystemDoes, SystemRun}
use Rattle.ds_system.specs.Start.{IsNew}

-- ---- where moves go

-- The endpoint that a move goes to.
abbrev pub goal_of : Move → Option EndpointRecord
goal_of (Start unit e) = Some e
goal_of (Send id e) = Some e
goal_of (Answer id ending) = None
goal_of (Held id) = None

-- The label of a unit's driver, and of the driver that a request is for.
abbrev pub label_of_unit : List (ℕ × Driver) → ℕ → Option (List ℕ)
label_of_unit units unit = option_map (λ (d : Driver). d.label) (driver_of units unit)

abbrev pub label_of_request : List (ℕ × Driver) → List Request → ℕ → Option (List ℕ)
label_of_request units requests id = option_and_then (λ (r : Request). label_of_unit units r.unit) (find (is_for id) requests)

-- The label of a move: that of its unit, or of its request.
abbrev pub label_of : DriverTable → Move → Option (List ℕ)
label_of t (Start unit e) = label_of_unit t.units unit
label_of t (Send id e) = label_of_request t.units t.requests id
label_of t (Answer id ending) = label_of_request t.units t.requests id
label_of t (Held id) = label_of_request t.units t.requests id

-- A Send or a Start: its label and its endpoint.
pub record Sending : Type 0 where
  pub label : List ℕ
  pub endpoint : EndpointRecord

abbrev pub sending_to : Option (List ℕ) → Option EndpointRecord → Option Sending
sending_to (Some label) (Some e) = Some (record { label = label; endpoint = e })
sending_to _ _ = None

-- The Sends and Starts among moves, in order.
abbrev pub sendings : DriverTable → List Move → List Sending
sendings t moves = filter_map (λ (m : Move). sending_to (label_of t m) (goal_of m)) moves

-- The Sends and Starts of a table's turn, if it had one; and of all its turns in these entries.
abbrev pub sent_by_turn : Option TableTurn → List Sending
sent_by_turn None = []
sent_by_turn (Some turn) = sendings turn.after (turn_moves turn)

abbrev pub sent_over : List SystemEntry → Table → List Sending
sent_over entries table = flat_map (λ (entry : SystemEntry). sent_by_turn (turn_in entry.steps table)) entries

-- ---- a turn that follows its map rightly

-- Whether the map's change of the label is a tombstone of a generation below the label's newest.
abbrev pub is_late : DriverTable → List ℕ → ChangeRecord → Bool
is_late t label c = is_old_tombstone (newest t.states label) c.version.epoch c.body

-- Whether the table passes over the map's change of a label: such a tombstone, or an old endpoint.
abbrev pub is_passed : DriverTable → List ℕ → ChangeRecord → Bool
is_passed t label c = is_late t label c || is_old_for t.states label (endpoint_in c.body)

-- Whether the move is under a label, and goes to no older generation.
pub record GoesToNoOlder (held : List Item) (turn : TableTurn) (earlier : List Sending) (m : Move) (e : EndpointRecord) : Type 0 where
  pub label : List ℕ
  pub under : label_of turn.after m ≡ Some label
  -- its endpoint's generation isn't below that of the map's change of the label
  pub of_map : (c : ChangeRecord) → held_at held (label_key label) ≡ Some c → c.version.epoch ≤ e.generation
  -- and is above that of a tombstone: nothing goes to an instance that the map says is gone
  pub gone : (c : ChangeRecord) → held_at held (label_key label) ≡ Some c → endpoint_in c.body ≡ None → c.version.epoch < e.generation
  -- nor is it below that of an earlier Send or Start under the label
  pub of_earlier : (x : Sending) → Contains earlier x → x.label ≡ label → x.endpoint.generation ≤ e.generation
  -- and if the label lives in the map, and isn't passed over, the endpoint is the map's
  pub own : (c : ChangeRecord) (f : EndpointRecord) →
      held_at held (label_key label) ≡ Some c → endpoint_in c.body ≡ Some f → is_passed turn.before label c ≡ false → e ≡ f

-- Whether the label's endpoint and newest generation are unchanged.
pub record IsAsBefore (t u : DriverTable) (label : List ℕ) : Type 0 where
  pub now : endpoint_now u.states label ≡ endpoint_now t.states label
  pub newest : newest u.states label ≡ newest t.states label

-- Whether the turn is right over a map that holds these items, after these Sends and Starts.
pub record FollowsRightly (held : List Item) (turn : TableTurn) (earlier : List Sending) : Type 0 where
  -- each Send and Start goes to no older generation
  pub sends : (front back : List Move) (m : Move) (e : EndpointRecord) → turn_moves turn ≡ front ++ m ∷ back → goal_of m ≡ Some e →
      GoesToNoOlder held turn (earlier ++ sendings turn.after front) m e
  -- an old tombstone changes nothing, and brings no move
  pub tombstones : (label : List ℕ) (c : ChangeRecord) → held_at held (label_key label) ≡ Some c → is_late turn.before label c ≡ true →
      IsAsBefore turn.before turn.after label × ((m : Move) → Contains (round_moves turn) m → label_of turn.after m ≡ Some label → ⊥)
  -- if the map was followed to its end, each label with a unit is as the map has it, or was passed over and is
  -- unchanged
  pub knows : turn.stop ≡ None → (label : List ℕ) (c : ChangeRecord) → has_label turn.before.units label ≡ true →
      held_at held (label_key label) ≡ Some c →
      (endpoint_now turn.after.states label ≡ endpoint_in c.body)
      ⊎ ((is_passed turn.before label c ≡ true) × IsAsBefore turn.before turn.after label)

-- ---- an event whose turns are right

-- Whether servers follow their maps in the event.
abbrev pub is_look : SystemEvent → Bool
is_look Follow = true
is_look (Submit table id unit) = true
is_look _ = false

-- Whether the table certainly has a turn: that of a Submit, the file server's of a Follow, and the network server's
-- unless something ended that.
abbrev pub must_look : SystemEvent → SystemOutcome → Table → Bool
must_look (Submit File id unit) outcome File = true
must_look (Submit Net id unit) outcome Net = true
must_look Follow outcome File = true
must_look Follow (Moved rounds own None) Net = true
must_look _ _ _ = false

-- Whether nothing ended the event early.
abbrev pub is_whole : SystemOutcome → Bool
is_whole (Moved rounds own None) = true
is_whole _ = false

-- The moves that an outcome reports, and those of a table's turn, if it had one.
abbrev pub moves_told : SystemOutcome → List Move
moves_told (Moved rounds own fault) = flat_map (λ (moves : List Move). moves) rounds ++ request_moves own
moves_told _ = []

abbrev pub moves_had : Option TableTurn → List Move
moves_had None = []
moves_had (Some turn) = turn_moves turn

-- Whether the turn is the table's between these systems, over its own map, and right, and has no early end if the event
-- has none.
pub record IsRightTurn (s : System) (outcome : SystemOutcome) (table : Table) (turn : TableTurn)
    (earlier : List Sending) (t : System) : Type 0 where
  pub before : turn.before ≡ table_at s table
  pub after : turn.after ≡ table_at t table
  pub right : FollowsRightly (followed_items s table) turn earlier
  pub whole : is_whole outcome ≡ true → turn.stop ≡ None

-- Whether the turns of the event are right, after all that each table sent earlier.
pub record TurnsAreRight (s : System) (entry : SystemEntry) (earlier : Table → List Sending) (t : System) : Type 0 where
  -- the moves that the outcome reports are those of the turns, the file server's first
  pub told : is_look entry.event ≡ true → moves_told entry.outcome ≡ moves_had entry.steps.file ++ moves_had entry.steps.net
  -- every table that has to follow its map has a turn
  pub had : (table : Table) → must_look entry.event entry.outcome table ≡ true → is_some (turn_in entry.steps table) ≡ true
  pub each : (table : Table) (turn : TableTurn) →
      turn_in entry.steps table ≡ Some turn → IsRightTurn s entry.outcome table turn (earlier table) t

-- A law: whatever happened since a system was new, the turns of the next event are right.
abbrev pub NoSendToOlder : Type 0
NoSendToOlder =
    (settings : SettingsRecord) (a b : Seed) (next : ℕ) (s t u : System) (entries : List SystemEntry) (entry : SystemEntry) →
    IsNew settings a b next s → SystemRun s entries t →
    SystemDoes t entry.event entry.outcome entry.steps u → TurnsAreRight t entry (sent_over entries) u

-- A law: no label has units at both servers, so neither sends anything under a label of the other.
abbrev pub LabelsAreApart : Type 0
LabelsAreApart =
    (settings : SettingsRecord) (a b : Seed) (next : ℕ) (s t : System) (entries : List SystemEntry) →
    IsNew settings a b next s → SystemRun s entries t →
    (label : List ℕ) → has_label t.file.units label ≡ true → has_label t.net.units label ≡ true → ⊥
