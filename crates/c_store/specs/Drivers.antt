-- Calls on the driver table of either server.
use Rattle.std.specs.Prelude.{◌≡◌, ℕ, ◌==◌, cond, List, Option, Some, None, Result, OnErr}
use Rattle.std.specs.Option.{option_map}
use Rattle.ds_names.specs.Endpoint.{EndpointRecord}
use Rattle.driver_tables.specs.declared.device.Class.{Class}
use Rattle.driver_tables.specs.declared.device.Class.TheVariants as classes
use Rattle.driver_tables.specs.declared.fault.TableFault.{TableFault}
use Rattle.driver_tables.specs.declared.file_table.FileClass.{FileClass}
use Rattle.driver_tables.specs.declared.file_table.FileClass.TheVariants.{Block, Character}
use Rattle.driver_tables.specs.declared.moves.Move.{Move}
use Rattle.driver_tables.specs.Driver.{Driver}
use Rattle.driver_tables.specs.DriverTable.{DriverTable}
use Rattle.driver_tables.specs.FileDriver.{class_of_file}
use Rattle.driver_tables.specs.Reply.{replying}
use Rattle.driver_tables.specs.Run.{Call, TableStep, no_moves, one_move}
use Rattle.driver_tables.specs.Run as calls
use Rattle.driver_tables.specs.Stands.{TableRecord, TableStands}
use Rattle.c_store.specs.declared.drivers.Tables.{Tables}
use Rattle.c_store.specs.declared.drivers.Tables.TheVariants.{File, Net}

-- The value of the table: what the code keeps of it.
abbrev pub kept : Tables → TableRecord
kept (File table) = table
kept (Net table) = table

-- The number of the server.
abbrev pub server_number : Tables → ℕ
server_number (File table) = 0
server_number (Net table) = 1

-- The class of a file server's unit with this number.
abbrev pub file_class_at : ℕ → Option FileClass
file_class_at n = cond (n == 0) (Some Block) (cond (n == 1) (Some Character) None)

-- The class with this number, if the server has units of it.
abbrev pub class_at : Tables → ℕ → Option Class
class_at (File table) n = option_map class_of_file (file_class_at n)
class_at (Net table) n = cond (n == 2) (Some classes.Network) None

abbrev pub driver_with : List ℕ → Class → Driver
driver_with label class = record { class = class; label = label }

-- Whether each table that the old value stands for takes the call with this answer, and the new value stands for the table after it.
abbrev pub StepsOn : Call → TableRecord → Result (List Move) TableFault → TableRecord → Type 0
StepsOn call old answer new =
    (t : DriverTable) → TableStands old t → (u : DriverTable) × TableStep t call answer u × TableStands new u

-- Whether a server's table takes the call with this answer. If it refuses the call, it is unchanged.
pub record StepsIn (call : Call) (old : Tables) (answer : Result (List Move) TableFault) (new : Tables) : Type 0 where
  pub steps : StepsOn call (kept old) answer (kept new)
  pub unchanged : OnErr answer (new ≡ old)
  pub server : server_number new ≡ server_number old

-- Whether a unit is assigned to the driver with a label, if there is a class.
abbrev pub AssignsWith : ℕ → List ℕ → Option Class → Tables → Option (Result (Unit {0}) TableFault) → Tables → Type 0
AssignsWith unit label None old answer new = (answer ≡ None) × (new ≡ old)
AssignsWith unit label (Some class) old None new = ⊥
AssignsWith unit label (Some class) old (Some answer) new =
    StepsIn (calls.Assign unit (driver_with label class)) old (no_moves answer) new

abbrev pub AssignsIn : ℕ → ℕ → List ℕ → Tables → Option (Result (Unit {0}) TableFault) → Tables → Type 0
AssignsIn unit class label old answer new = AssignsWith unit label (class_at old class) old answer new

-- Whether the table takes a reply. The answer is never that memory ran out.
pub record RepliesIn (endpoint : EndpointRecord) (id : ℕ) (old : Tables) (answer : Result (List Move) TableFault)
    (new : Tables) : Type 0 where
  pub steps : StepsIn (calls.Reply endpoint id) old answer new
  pub exact : (t : DriverTable) → TableStands (kept old) t → answer ≡ one_move (replying t endpoint id).0
