-- The effects of turns and replies on what the code keeps of the tables.
use Rattle.std.specs.Prelude.{◌≡◌, ℕ, List, [], Option, Some, None, Result, Ok, Err}
use Rattle.ds_names.specs.Endpoint.{EndpointRecord}
use Rattle.ds_entry.specs.declared.item.Item.{Item}
use Rattle.driver_tables.specs.declared.moves.Move.{Move}
use Rattle.driver_tables.specs.declared.fault.TableFault.{TableFault}
use Rattle.driver_tables.specs.DriverTable.{DriverTable}
use Rattle.driver_tables.specs.Stands.{TableRecord, TableStands}
use Rattle.ds_replica.specs.declared.event.Holder.TheVariants.{Map}
use Rattle.ds_world.specs.World.{WorldRecord, held_in}
use Rattle.rs_to_store.specs.Following.{HasFollowed}
use Rattle.ds_system.specs.declared.outcome.SystemOutcome.{SystemOutcome}
use Rattle.ds_system.specs.declared.outcome.SystemOutcome.TheVariants.{Moved}
use Rattle.ds_system.specs.Turn.{TableTurn, FollowsItems}
use Rattle.ds_system.specs.EffectsOfTurns.{Submits, Replies}

-- The move of an answer, and its fault.
abbrev pub own_move_of : Result Move TableFault → Option Move
own_move_of (Ok own) = Some own
own_move_of (Err fault) = None

abbrev pub own_fault_of : Result Move TableFault → Option TableFault
own_fault_of (Ok own) = None
own_fault_of (Err fault) = Some fault

-- The outcome of a server's event, with these rounds.
abbrev pub moved_so : List (List Move) → Result Move TableFault → SystemOutcome
moved_so rounds answer = Moved rounds (own_move_of answer) (own_fault_of answer)

-- The table followed the map of a number, and its rounds were appended; a map that doesn't exist tells nothing.
abbrev pub FollowsMap : WorldRecord → ℕ → (old new : TableRecord) → (before after : List (List Move)) → Option TableFault → Type 0
FollowsMap world map old new before after fault = HasFollowed (held_in world (Map map)) old new before after fault

-- The turn is of this table, which follows a map that holds these items, and then takes the request with this answer.
pub record IsSubmitTurn (held : List Item) (id unit : ℕ) (t : DriverTable) (rounds : List (List Move))
    (answer : Result Move TableFault) (turn : TableTurn) : Type 0 where
  pub before : turn.before ≡ t
  pub follows : FollowsItems held turn
  pub own : turn.own ≡ own_move_of answer
  pub submits : Submits turn.followed id unit turn.stop turn.own (own_fault_of answer) turn.after
  pub rounds_are : rounds ≡ turn.rounds

-- Each table that the old value stands for had such a turn, and the new value stands for the table after it.
abbrev pub HasSubmitted : List Item → (id unit : ℕ) → (old new : TableRecord) → List (List Move) → Result Move TableFault → Type 0
HasSubmitted held id unit old new rounds answer =
    (t : DriverTable) → TableStands old t → (turn : TableTurn) × IsSubmitTurn held id unit t rounds answer turn × TableStands new turn.after

-- Each of them took a reply, with this answer.
abbrev pub HasReplied : EndpointRecord → ℕ → (old new : TableRecord) → Result Move TableFault → Type 0
HasReplied endpoint id old new answer =
    (t : DriverTable) → TableStands old t →
    (after : DriverTable) × Replies t endpoint id (own_move_of answer) (own_fault_of answer) after × TableStands new after

-- Unless something ended the other follow, the table followed too, and its rounds were appended.
abbrev pub FollowsUnlessEnded : Option TableFault → List Item → (old new : TableRecord) →
    (before after : List (List Move)) → Option TableFault → Type 0
FollowsUnlessEnded None held old new before after fault = HasFollowed held old new before after fault
FollowsUnlessEnded (Some stop) held old new before after fault = (after ≡ before) × (fault ≡ Some stop) × (new ≡ old)

-- The file server's table followed map 0 first, and then the network server's map 1.
abbrev pub ServersFollow : WorldRecord → (file_old file_new net_old net_new : TableRecord) → List (List Move) → Option TableFault → Type 0
ServersFollow world file_old file_new net_old net_new rounds fault =
    (first : List (List Move)) × (stop : Option TableFault) ×
    FollowsMap world 0 file_old file_new [] first stop × FollowsUnlessEnded stop (held_in world (Map 1)) net_old net_new first rounds fault
