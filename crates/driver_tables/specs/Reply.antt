-- A driver's reply.
use Rattle.std.specs.Prelude.{if◌then◌else◌, ℕ, [], ◌∷◌, Some, Result, Ok, Err}
use Rattle.ds_names.specs.Endpoint.{EndpointRecord}
use Rattle.driver_tables.specs.declared.moves.Ending.TheVariants.{Done}
use Rattle.driver_tables.specs.declared.moves.Move.{Move}
use Rattle.driver_tables.specs.declared.moves.Move.TheVariants.{Answer}
use Rattle.driver_tables.specs.declared.fault.TableFault.{TableFault}
use Rattle.driver_tables.specs.declared.fault.TableFault.TheVariants.{NotPending, OldEndpoint}
use Rattle.driver_tables.specs.Label.{is_same_state}
use Rattle.driver_tables.specs.DriverTable.{DriverTable, last_sent, pending, is_requested}
use Rattle.driver_tables.specs.Doing.{does}

-- The table with the request answered Done.
abbrev pub finishes : DriverTable → ℕ → DriverTable
finishes t id = does t (Answer id Done ∷ [])

-- The answer to a reply, and the table after it.
abbrev pub replying : DriverTable → EndpointRecord → ℕ → Result Move TableFault × DriverTable
replying t endpoint id =
    if is_requested (pending t) id then
    (if is_same_state (last_sent t.sends id) (Some endpoint) then (Ok (Answer id Done), finishes t id) else (Err OldEndpoint, t))
    else (Err NotPending, t)
