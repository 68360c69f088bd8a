-- The parts of lines' events are in their ranges.
use Rattle.std.proofs.Common.{◌≡◌, [], ◌∷◌, Option, None, Some, refl, subst}
use Rattle.std.proofs.lemmas.Option.{same_Some}
use Rattle.ds_machine.specs.declared.command.Command.{Command}
use Rattle.ds_machine.specs.declared.command.Command.TheVariants.{Publish, Delete, Sweep, Merge}
use Rattle.ds_machine.proofs.OneStepLemmas.{none_some}
use Rattle.ds_replica.specs.declared.event.Event.{Event}
use Rattle.ds_replica.specs.declared.event.Event.TheVariants as events
use Rattle.ds_replica.specs.declared.event.Side.{Side}
use Rattle.ds_replica.specs.Bringing.{IsProper, IsProperEvent}
use Rattle.ds_replica.proofs.BringLemmas.{one_item}
use Rattle.script_commands.specs.Command.{IsCommand, store_command}
use Rattle.script_commands.specs.Event.{asked_of}
use Rattle.script_commands.specs.Proper.{LinesAreProper}
use Rattle.script_commands.specs.declared.command.ScriptCommand.{ScriptCommand}
use Rattle.script_commands.specs.declared.command.ScriptCommand.TheVariants.{Offer, Store, Map, Clear, Restart, Deliver}

-- the store command
pub line_proper : (c : ScriptCommand) (command : Command) → IsCommand c → store_command c ≡ Some command → IsProper command
line_proper (Offer i) command is e = subst IsProper (same_Some (Merge (i ∷ [])) command e) (one_item i is)
line_proper (Store (Publish caller key version value overwrite)) command is e =
    subst IsProper (same_Some (Publish caller key version value overwrite) command e)
    (record { name = is.1.1.0; epoch = is.1.1.1.0.epoch; seq = is.1.1.1.0.seq; body = is.1.1.1.1.valid })
line_proper (Store (Delete caller key version)) command is e =
    subst IsProper (same_Some (Delete caller key version) command e)
    (record { name = is.1.0; epoch = is.1.1.0.epoch; seq = is.1.1.0.seq; body = tt })
line_proper (Store (Sweep caller owner generation)) command is e =
    subst IsProper (same_Some (Sweep caller owner generation) command e) (record { owner = is.1.0; generation = is.1.1.0 })
line_proper (Store (Merge items)) command is e = absurd is
line_proper (Store asked) command is e = subst IsProper (same_Some asked command e) tt
line_proper _ command is e = absurd (none_some command e)

-- the event is this one
this : (proper event : Event) → IsProperEvent proper → Some proper ≡ Some event → IsProperEvent event
this proper event is e = subst IsProperEvent (same_Some proper event e) is

asked_proper : (side : Side) (asked : Option Command) (event : Event) → ((command : Command) → asked ≡ Some command → IsProper command)
    → asked_of side asked ≡ Some event → IsProperEvent event
asked_proper side None event proper e = absurd (none_some event e)
asked_proper side (Some command) event proper e = this (events.Ask side command) event (proper command refl) e

pub lines_are_proper : LinesAreProper
lines_are_proper (Map query) side event is e = this (events.NewMap query) event tt e
lines_are_proper (Clear map) side event is e = this (events.ClearMap map) event tt e
lines_are_proper (Restart at incarnation) side event is e = this (events.RestartStore at incarnation) event tt e
lines_are_proper (Deliver message holder count) side event is e = this (events.Deliver message holder count) event tt e
lines_are_proper c side event is e = asked_proper side (store_command c) event (λ command. line_proper c command is) e
