-- The answers to lines for driver tables.
use Rattle.std.specs.Prelude.{◌≡◌, ℕ, List, [], ◌++◌, length, Option, Some, None, Result, Ok, Err, codes}
use Rattle.std.specs.List.{flat_map}
use Rattle.std.specs.Option.{option_map, option_to_list}
use Rattle.ds_names.specs.Endpoint.{EndpointRecord}
use Rattle.ds_entry.specs.declared.item.Item.{Item}
use Rattle.driver_tables.specs.declared.fault.TableFault.{TableFault}
use Rattle.driver_tables.specs.declared.moves.Move.{Move}
use Rattle.driver_tables.specs.Driver.{net_driver}
use Rattle.driver_tables.specs.DriverTable.{DriverTable}
use Rattle.driver_tables.specs.FileDriver.{file_driver}
use Rattle.driver_tables.specs.Run.{Call, TableStep, table_outcome}
use Rattle.driver_tables.specs.Run as calls
use Rattle.ds_held.specs.Held.{held_items}
use Rattle.ds_submap.specs.Map.{SubMapRecord}
use Rattle.rs_to_store.specs.Following.{labels_of, Follows}
use Rattle.rs_to_store.specs.Submitting.{all_in, FollowsAndTakes}
use Rattle.script_answers.specs.Moves.{assigned_line, move_line, move_count_line, table_fault_line}
use Rattle.script_answers.specs.Refusal.{refusal_line}
use Rattle.script_commands.specs.declared.service.Device.{Device}
use Rattle.script_commands.specs.declared.service.Device.TheVariants as devices
use Rattle.script_commands.specs.declared.service.Server.{Server}
use Rattle.script_commands.specs.declared.service.Server.TheVariants.{File, Net}
use Rattle.script_services.specs.Servers.{Servers, server_table, with_table}

-- ---- assign

-- The server that has the device.
abbrev pub server_of : Device → Server
server_of (devices.File major class) = File
server_of (devices.Net port) = Net

-- The call that assigns a device to the driver with a label.
abbrev pub assign_call : Device → List ℕ → Call
assign_call (devices.File major class) label = calls.Assign major (file_driver class label)
assign_call (devices.Net port) label = calls.Assign port (net_driver label)

-- The answer to it.
abbrev pub assign_text : Result (List Move) TableFault → List ℕ
assign_text (Ok moves) = assigned_line
assign_text (Err fault) = table_fault_line fault

-- Whether a call on a server's table has this text as its answer.
pub record AnswersCall (server : Server) (call : Call) (text : Result (List Move) TableFault → List ℕ)
    (s : Servers) (out : List ℕ) (t : Servers) : Type 0 where
  pub answer : Result (List Move) TableFault
  pub table : DriverTable
  pub step : TableStep (server_table s server) call answer table
  pub after : t ≡ with_table s server table
  pub told : out ≡ text answer

abbrev pub AnswersAssign : Device → List ℕ → Servers → List ℕ → Servers → Type 0
AnswersAssign device label s out t = AnswersCall (server_of device) (assign_call device label) assign_text s out t

-- ---- reply

-- A line for each move.
abbrev pub move_lines : List Move → List ℕ
move_lines moves = flat_map move_line moves

-- The move, or the refusal.
abbrev pub answer_text : Result (List Move) TableFault → List ℕ
answer_text (Ok moves) = move_lines moves
answer_text (Err fault) = table_fault_line fault

-- Like `AnswersCall`, for a call that takes no memory: the answer is never that memory ran out.
pub record AnswersExactly (server : Server) (call : Call) (text : Result (List Move) TableFault → List ℕ)
    (s : Servers) (out : List ℕ) (t : Servers) : Type 0 where
  pub answers : AnswersCall server call text s out t
  pub exact : answers.answer ≡ (table_outcome (server_table s server) call).0

abbrev pub AnswersReply : Server → EndpointRecord → ℕ → Servers → List ℕ → Servers → Type 0
AnswersReply server endpoint id s out t = AnswersExactly server (calls.Reply endpoint id) answer_text s out t

-- The answer of a call as a list of moves: its single move, or none of its own.
abbrev pub own_moves : Result (Option Move) TableFault → Result (List Move) TableFault
own_moves (Ok own) = Ok (option_to_list own)
own_moves (Err fault) = Err fault

-- ---- follow, and submit

-- The moves and their number; a refusal after some moves takes the place of their number.
abbrev pub moves_text : List Move → Result (List Move) TableFault → List ℕ
moves_text moves (Ok own) = move_lines (moves ++ own) ++ move_count_line (length (moves ++ own))
moves_text moves (Err fault) = move_lines moves ++ table_fault_line fault

-- The end of a follow's answer: no further move, or what ended it.
abbrev pub ended_by : Option TableFault → Result (List Move) TableFault
ended_by None = Ok []
ended_by (Some fault) = Err fault

-- Whether a table, unless something ended earlier, follows a map that holds these items.
abbrev pub FollowsNext : Option TableFault → List Item → DriverTable → List (List Move) → Option TableFault → DriverTable → Type 0
FollowsNext None held t rounds fault u = Follows held (labels_of t) t rounds fault u
FollowsNext (Some stop) held t rounds fault u = (rounds ≡ []) × (fault ≡ Some stop) × (u ≡ t)

-- Whether the file server's table follows first, and then, unless something ended that, the network server's.
pub record BothFollow (held : List Item) (s : Servers) (rounds : List (List Move)) (fault : Option TableFault) (t : Servers) : Type 0 where
  pub first : List (List Move)
  pub next : List (List Move)
  pub stop : Option TableFault
  pub file : Follows held (labels_of s.file) s.file first stop t.file
  pub net : FollowsNext stop held s.net next fault t.net
  pub services : t.services ≡ s.services
  pub all : rounds ≡ first ++ next

-- The items that the map of a number holds, if it exists.
abbrev pub map_items : Option SubMapRecord → Option (List Item)
map_items map = option_map (λ (m : SubMapRecord). held_items m.held) map

-- The answer for a map that doesn't exist.
abbrev pub nomap_line : List ℕ
nomap_line = refusal_line (codes "nomap")

abbrev pub AnswersFollow : Option (List Item) → Servers → List ℕ → Servers → Type 0
AnswersFollow None s out t = (t ≡ s) × (out ≡ nomap_line)
AnswersFollow (Some held) s out t =
    (rounds : List (List Move)) × (fault : Option TableFault) ×
    BothFollow held s rounds fault t × (out ≡ moves_text (all_in rounds) (ended_by fault))

-- Whether a request is answered so: without a map nothing happens; else the moves of the follow come before the
-- request's own move, or before its refusal.
abbrev pub AnswersSubmit : Server → ℕ → ℕ → Option (List Item) → Servers → List ℕ → Servers → Type 0
AnswersSubmit server id unit None s out t = (t ≡ s) × (out ≡ nomap_line)
AnswersSubmit server id unit (Some held) s out t =
    (rounds : List (List Move)) × (own : Result (List Move) TableFault) × (table : DriverTable)
    × FollowsAndTakes held id unit (server_table s server) rounds own table × (t ≡ with_table s server table)
    × (out ≡ moves_text (all_in rounds) own)
