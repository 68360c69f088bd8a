-- The submission of a request.
use Rattle.std.specs.Prelude.{if◌then◌else◌, ℕ, [], ◌∷◌, ◌++◌, Option, Some, None, Result, Ok, Err}
use Rattle.ds_names.specs.Endpoint.{EndpointRecord}
use Rattle.driver_tables.specs.declared.moves.Ending.TheVariants.{Fault}
use Rattle.driver_tables.specs.declared.moves.Move.{Move}
use Rattle.driver_tables.specs.declared.moves.Move.TheVariants.{Send, Answer, Held}
use Rattle.driver_tables.specs.declared.fault.TableFault.{TableFault}
use Rattle.driver_tables.specs.declared.fault.TableFault.TheVariants.{TwoIds, NoDevice}
use Rattle.driver_tables.specs.declared.device.Class.{Class}
use Rattle.driver_tables.specs.declared.device.Class.TheVariants.{Block}
use Rattle.driver_tables.specs.Driver.{Driver, driver_of}
use Rattle.driver_tables.specs.Label.{endpoint_now}
use Rattle.driver_tables.specs.DriverTable.{DriverTable, Request, is_above}
use Rattle.driver_tables.specs.Doing.{does}

-- The move of a request. With an endpoint it is sent. Without one, a request to a block driver is held, and a request to
-- any other driver fails.
abbrev pub submitted : Class → ℕ → Option EndpointRecord → Move
submitted class id (Some e) = Send id e
submitted Block id None = Held id
submitted _ id None = Answer id Fault

-- The move when a request is submitted to a driver.
abbrev pub move_of : DriverTable → Request → Driver → Move
move_of t r d = submitted d.class r.id (endpoint_now t.states d.label)

abbrev pub with_request : DriverTable → Request → DriverTable
with_request t r = record t { requests = t.requests ++ r ∷ [] }

abbrev pub submitting_to : DriverTable → Request → Option Driver → Result Move TableFault × DriverTable
submitting_to t r None = (Err NoDevice, t)
submitting_to t r (Some d) = (Ok (move_of t r d), does (with_request t r) (move_of t r d ∷ []))

-- The answer to a request, and the table after it.
abbrev pub submitting : DriverTable → ℕ → ℕ → Result Move TableFault × DriverTable
submitting t id unit =
    if is_above t.requests id then submitting_to t (record { id = id; unit = unit }) (driver_of t.units unit) else (Err TwoIds, t)
