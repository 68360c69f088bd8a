-- The world event of a line.
use Rattle.std.specs.Prelude.{Option, None, Some}
use Rattle.ds_machine.specs.declared.command.Command.{Command}
use Rattle.ds_replica.specs.declared.event.Event.{Event}
use Rattle.ds_replica.specs.declared.event.Event.TheVariants as events
use Rattle.ds_replica.specs.declared.event.Side.{Side}
use Rattle.script_commands.specs.Command.{store_command}
use Rattle.script_commands.specs.declared.command.ScriptCommand.{ScriptCommand}
use Rattle.script_commands.specs.declared.command.ScriptCommand.TheVariants.{Map, Clear, Restart, Deliver}

-- The event that sends a command to the store of the side, if there is a command.
abbrev pub asked_of : Side → Option Command → Option Event
asked_of side None = None
asked_of side (Some command) = Some (events.Ask side command)

-- The line's event in a world: a map is made or cleared, items are delivered, a store is restarted, or the store of the
-- side gets the line's store command; other lines have none.
abbrev pub event_of : Side → ScriptCommand → Option Event
event_of side (Map query) = Some (events.NewMap query)
event_of side (Clear map) = Some (events.ClearMap map)
event_of side (Restart at incarnation) = Some (events.RestartStore at incarnation)
event_of side (Deliver message holder count) = Some (events.Deliver message holder count)
event_of side command = asked_of side (store_command command)
