-- The parts of lines' events are in their ranges.
use Rattle.std.specs.Prelude.{◌≡◌, Some}
use Rattle.ds_replica.specs.declared.event.Event.{Event}
use Rattle.ds_replica.specs.declared.event.Side.{Side}
use Rattle.ds_replica.specs.Bringing.{IsProperEvent}
use Rattle.script_commands.specs.Command.{IsCommand}
use Rattle.script_commands.specs.Event.{event_of}
use Rattle.script_commands.specs.declared.command.ScriptCommand.{ScriptCommand}

-- A law: a line's event has its parts in their ranges, and its items are changes and floors that keep their rules.
abbrev pub LinesAreProper : Type 0
LinesAreProper =
    (command : ScriptCommand) (side : Side) (event : Event) → IsCommand command → event_of side command ≡ Some event → IsProperEvent event
