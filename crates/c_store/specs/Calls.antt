-- What the calls on a server's table do to it, and their answers.
use Rattle.std.specs.Prelude.{◌≡◌, ℕ, ◌<◌, cond, List, [], Option, None, Result, MatchOption}
use Rattle.ds_names.specs.Endpoint.{EndpointRecord}
use Rattle.ds_entry.specs.declared.item.Item.{Item}
use Rattle.driver_tables.specs.declared.device.Class.{Class}
use Rattle.driver_tables.specs.declared.fault.TableFault.{TableFault}
use Rattle.driver_tables.specs.declared.moves.Move.{Move}
use Rattle.driver_tables.specs.DriverTable.{empty_table}
use Rattle.driver_tables.specs.Run.{moves_in}
use Rattle.driver_tables.specs.Run as calls
use Rattle.driver_tables.specs.Stands.{TableStands}
use Rattle.c_values.specs.declared.answer.Answer.{Answer}
use Rattle.c_values.specs.Answer.{no_request}
use Rattle.c_values.specs.Request.{endpoint_at, is_name}
use Rattle.c_store.specs.declared.server_table.ServerTable.{ServerTable}
use Rattle.c_store.specs.Answers.{told_moves, told_call}
use Rattle.c_store.specs.Drivers.{kept, server_number, class_at, driver_with, StepsIn, RepliesIn}
use Rattle.c_store.specs.Following.{FollowsInto, SubmitsInto}

-- Whether the new table is the empty one of the server with this number.
pub record IsEmptyTable (server : ℕ) (new : ServerTable) : Type 0 where
  pub server_is : server_number new.drivers ≡ server
  pub empty : TableStands (kept new.drivers) empty_table
  pub none : new.moves ≡ []

abbrev pub IsNewTable : ℕ → Option ServerTable → Type 0
IsNewTable server made = MatchOption made (1 < server) (IsEmptyTable server)

-- Whether it isn't a call: the table is unchanged, and no moves are left.
pub record Declines (old : ServerTable) (answer : Answer) (new : ServerTable) : Type 0 where
  pub drivers : new.drivers ≡ old.drivers
  pub none : new.moves ≡ []
  pub told : answer ≡ no_request

-- The class, if the bytes are a name and the server has units of this class.
abbrev pub class_for : ServerTable → ℕ → List ℕ → Option Class
class_for old class label = cond (is_name label) (class_at old.drivers class) None

-- Whether a unit is assigned to the driver with a label, or refused.
pub record AssignsTo (unit : ℕ) (label : List ℕ) (old : ServerTable) (answer : Answer) (new : ServerTable) (class : Class) : Type 0 where
  pub said : Result (List Move) TableFault
  pub steps : StepsIn (calls.Assign unit (driver_with label class)) old.drivers said new.drivers
  pub none : new.moves ≡ []
  pub told : answer ≡ told_call said

abbrev pub TableAssigns : ℕ → ℕ → List ℕ → ServerTable → Answer → ServerTable → Type 0
TableAssigns unit class label old answer new =
    MatchOption (class_for old class label) (Declines old answer new) (AssignsTo unit label old answer new)

-- Whether the table follows a map that holds these items, and the moves that follow are left.
pub record TableFollows (held : List Item) (old : ServerTable) (answer : Answer) (new : ServerTable) : Type 0 where
  pub stop : Option TableFault
  pub follows : FollowsInto held (kept old.drivers) (kept new.drivers) stop new.moves
  pub server : server_number new.drivers ≡ server_number old.drivers
  pub told : answer ≡ told_moves new.moves stop

-- Whether the table follows a map that holds these items, and then takes a request.
pub record TableSubmits (held : List Item) (id unit : ℕ) (old : ServerTable) (answer : Answer) (new : ServerTable) : Type 0 where
  pub stop : Option TableFault
  pub submits : SubmitsInto held id unit (kept old.drivers) (kept new.drivers) stop new.moves
  pub server : server_number new.drivers ≡ server_number old.drivers
  pub told : answer ≡ told_moves new.moves stop

-- Whether the table takes the reply of an endpoint. The answer is never that memory ran out.
pub record RepliesTo (id : ℕ) (old : ServerTable) (answer : Answer) (new : ServerTable) (endpoint : EndpointRecord) : Type 0 where
  pub said : Result (List Move) TableFault
  pub replies : RepliesIn endpoint id old.drivers said new.drivers
  pub moves : new.moves ≡ moves_in said
  pub told : answer ≡ told_call said

-- Whether the table takes the reply of the endpoint with these numbers; if there is none, it isn't a call.
abbrev pub TableReplies : ℕ → ℕ → ℕ → ServerTable → Answer → ServerTable → Type 0
TableReplies generation slot id old answer new =
    MatchOption (endpoint_at generation slot) (Declines old answer new) (RepliesTo id old answer new)
