-- A new state of a label.
use Rattle.std.specs.Prelude.{if◌then◌else◌, ℕ, not, List, [], ◌∷◌, ◌++◌, Option, Some, None, Result, Ok, Err}
use Rattle.std.specs.Option.{option_map_or}
use Rattle.std.specs.List.{filter_map}
use Rattle.ds_names.specs.Endpoint.{EndpointRecord}
use Rattle.driver_tables.specs.declared.moves.Ending.TheVariants.{Fault}
use Rattle.driver_tables.specs.declared.moves.Move.{Move}
use Rattle.driver_tables.specs.declared.moves.Move.TheVariants.{Start, Send, Answer}
use Rattle.driver_tables.specs.declared.fault.TableFault.{TableFault}
use Rattle.driver_tables.specs.declared.fault.TableFault.TheVariants.{OldEndpoint}
use Rattle.driver_tables.specs.declared.device.Class.{Class}
use Rattle.driver_tables.specs.declared.device.Class.TheVariants.{Block, Network}
use Rattle.driver_tables.specs.Driver.{Driver, driver_of, has_label}
use Rattle.driver_tables.specs.Label.{endpoint_now, is_same_state, is_old_for}
use Rattle.driver_tables.specs.DriverTable.{DriverTable, Request, pending}
use Rattle.driver_tables.specs.Doing.{does}
use Rattle.ds_names.specs.Name.{is_same_name}

-- The start of a port at an endpoint; other units don't start.
abbrev pub network_start : Class → ℕ → Option EndpointRecord → Option Move
network_start Network unit (Some e) = Some (Start unit e)
network_start _ unit state = None

-- The start of a unit, if it has the label.
abbrev pub start : List ℕ → Option EndpointRecord → ℕ × Driver → Option Move
start label state u = if is_same_name label u.1.label then network_start u.1.class u.0 state else None

-- The move of a pending request: a block driver's is sent again, and has none without an endpoint; another driver's
-- fails.
abbrev pub settled : Class → ℕ → Option EndpointRecord → Option Move
settled Block id None = None
settled Block id (Some e) = Some (Send id e)
settled _ id state = Some (Answer id Fault)

-- Like `settled`, if the driver has the label.
abbrev pub settled_of : List ℕ → Option EndpointRecord → ℕ → Driver → Option Move
settled_of label state id d = if is_same_name label d.label then settled d.class id state else None

-- The move of a pending request under a new state of the label.
abbrev pub settle : List (ℕ × Driver) → List ℕ → Option EndpointRecord → Request → Option Move
settle units label state r = option_map_or (settled_of label state r.id) (driver_of units r.unit) None

-- The moves for a change: first the starts, in order of assignment, then those of the pending requests, in order of submission.
abbrev pub all_moves : DriverTable → List ℕ → Option EndpointRecord → List Move
all_moves t label state = filter_map (start label state) t.units ++ filter_map (settle t.units label state) (pending t)

-- The moves of a state; none if the label has that state already.
abbrev pub moves_of : DriverTable → List ℕ → Option EndpointRecord → List Move
moves_of t label state = if is_same_state (endpoint_now t.states label) state then [] else all_moves t label state

-- The table with the state accepted.
abbrev pub notes : DriverTable → List ℕ → Option EndpointRecord → DriverTable
notes t label state = record t { states = t.states ++ (record { label = label; endpoint = state }) ∷ [] }

-- The answer to a new state, and the table after it.
abbrev pub changing : DriverTable → List ℕ → Option EndpointRecord → Result (List Move) TableFault × DriverTable
changing t label state =
    if not (has_label t.units label) then (Ok [], t)
    else if is_old_for t.states label state then (Err OldEndpoint, t)
    else (Ok (moves_of t label state), does (notes t label state) (moves_of t label state))
