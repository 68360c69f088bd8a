-- Where a call may answer NoRoom: where no other cause refuses it and it takes memory.
use Rattle.std.specs.Prelude.{◌≡◌, ◌≢◌, ℕ, false, List, [], Option, Result, Ok, Err}
use Rattle.ds_names.specs.Endpoint.{EndpointRecord}
use Rattle.driver_tables.specs.declared.moves.Move.{Move}
use Rattle.driver_tables.specs.declared.fault.TableFault.{TableFault}
use Rattle.driver_tables.specs.declared.fault.TableFault.TheVariants.{NoRoom}
use Rattle.driver_tables.specs.DriverTable.{DriverTable}
use Rattle.driver_tables.specs.Changed.{changing}
use Rattle.driver_tables.specs.Submit.{submitting}
use Rattle.driver_tables.specs.Requests.{is_ending}

-- Whether the answer has moves.
abbrev pub HasMoves : Result (List Move) TableFault → Type 0
HasMoves (Ok moves) = moves ≢ []
HasMoves (Err fault) = ⊥

-- Whether the answer leaves its request pending.
abbrev pub LeavesPending : Result Move TableFault → Type 0
LeavesPending (Ok step) = is_ending step ≡ false
LeavesPending (Err fault) = ⊥

-- A new state takes memory for its moves.
abbrev pub StateTakesMemory : DriverTable → List ℕ → Option EndpointRecord → Type 0
StateTakesMemory t label state = HasMoves (changing t label state).0

-- A request takes memory while it is pending, and none if it is answered at once.
abbrev pub RequestTakesMemory : DriverTable → ℕ → ℕ → Type 0
RequestTakesMemory t id unit = LeavesPending (submitting t id unit).0

-- The answer is NoRoom only if `takes` holds.
abbrev pub LacksOnlyWhere : {A : Type 0} → Type 0 → Result A TableFault → Type 0
LacksOnlyWhere takes (Err NoRoom) = takes
LacksOnlyWhere takes answer = Unit {0}
