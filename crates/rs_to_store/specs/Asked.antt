-- Commands to a store, for a change and for RS's actions.
use Rattle.std.specs.Prelude.{true, List, Option, Some, None}
use Rattle.std.specs.List.{filter_map}
use Rattle.ds_names.specs.Endpoint.{EndpointRecord, endpoint_of}
use Rattle.ds_names.specs.declared.key.Key.{Key}
use Rattle.ds_names.specs.declared.version.Version.{Version}
use Rattle.ds_entry.specs.declared.body.Body.{Body}
use Rattle.ds_entry.specs.declared.body.Body.TheVariants.{Put, Gone}
use Rattle.ds_machine.specs.declared.command.Command.{Command}
use Rattle.ds_machine.specs.declared.command.Command.TheVariants.{Publish, Delete, Sweep}
use Rattle.rs_core.specs.declared.action.Action.{Action}
use Rattle.rs_core.specs.declared.action.Action.TheVariants as actions

-- The command for a caller's own change: for a put a Publish that overwrites, for a tombstone a Delete.
abbrev pub asking_for : EndpointRecord → Key → Version → Body → Command
asking_for caller key version (Put value) = Publish caller key version value true
asking_for caller key version Gone = Delete caller key version

-- The command of an action, from RS's endpoint `0/2`: it makes the offered change, or sweeps up to a floor; other
-- actions have none.
abbrev pub command_of : Action → Option Command
command_of (actions.Offer change) = Some (asking_for (endpoint_of 0 2) change.key change.version change.body)
command_of (actions.Sweep floor) = Some (Sweep (endpoint_of 0 2) floor.owner floor.generation)
command_of (actions.Kill endpoint) = None
command_of (actions.Start label endpoint) = None
command_of (actions.Ping endpoint) = None

-- The commands of actions, in order.
abbrev pub commands : List Action → List Command
commands = filter_map command_of
