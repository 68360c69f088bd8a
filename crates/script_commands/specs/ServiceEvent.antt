-- The RS event of a line.
use Rattle.std.specs.Prelude.{ℕ, List, Option, None, Some}
use Rattle.rs_core.specs.declared.event.Event.{Event}
use Rattle.rs_core.specs.declared.event.Event.TheVariants as events
use Rattle.script_commands.specs.declared.service.Request.{Request}
use Rattle.script_commands.specs.declared.service.Request.TheVariants as requests
use Rattle.script_commands.specs.declared.command.ScriptCommand.{ScriptCommand}
use Rattle.script_commands.specs.declared.command.ScriptCommand.TheVariants.{Service, Death, Beat, Tick}

-- The event of a request for the service of a label.
abbrev pub request_event : Request → List ℕ → Event
request_event requests.Up label = events.Up label
request_event requests.Down label = events.Stop label
request_event requests.Refresh label = events.Refresh label
request_event requests.Restart label = events.Restart label

-- The line's event for RS, with its tick; other lines have none.
abbrev pub service_event_of : ScriptCommand → Option (Event × ℕ)
service_event_of (Service request label tick) = Some (request_event request label, tick)
service_event_of (Death endpoint cause tick) = Some (events.Death endpoint cause, tick)
service_event_of (Beat endpoint tick) = Some (events.Beat endpoint, tick)
service_event_of (Tick tick) = Some (events.Tick, tick)
service_event_of _ = None
