-- Everything brought in keeps the rules of changes and floors.
use Rattle.std.specs.Prelude.{◌<◌, ◌≤◌, ◌^◌, List, Contains}
use Rattle.ds_names.specs.Name.{IsName}
use Rattle.ds_names.specs.declared.key.Key.{Key}
use Rattle.ds_names.specs.declared.version.Version.{Version}
use Rattle.ds_entry.specs.Change.{IsBody}
use Rattle.ds_entry.specs.Floor.{IsFloor, floor_of}
use Rattle.ds_entry.specs.declared.body.Body.{Body}
use Rattle.ds_entry.specs.declared.body.Body.TheVariants.{Put, Gone}
use Rattle.ds_machine.specs.declared.command.Command.{Command}
use Rattle.ds_machine.specs.declared.command.Command.TheVariants.{Publish, Delete, Sweep, Merge}
use Rattle.ds_replica.specs.declared.event.Event.{Event}
use Rattle.ds_replica.specs.declared.event.Event.TheVariants.{Ask}
use Rattle.ds_replica.specs.declared.outcome.Outcome.{Outcome}
use Rattle.ds_replica.specs.World.{World}
use Rattle.ds_replica.specs.Happens.{HappenAll}
use Rattle.ds_replica.specs.Known.{Account, extended_all}
use Rattle.ds_replica.specs.Fits.{Fits}
use Rattle.ds_replica.specs.CaughtUp.{AreItems}

-- The parts of a change that a caller names are in their ranges, as their types guarantee.
pub record AreParts (key : Key) (version : Version) (content : Body) : Type 0 where
  pub name : IsName key.name
  pub epoch : version.epoch ≤ 2097151
  pub seq : version.seq < 2 ^ 32
  pub body : IsBody content

-- The parts of a command that brings something in are in their ranges. Whether they fit together is for the store to
-- judge.
abbrev pub IsProper : Command → Type 0
IsProper (Publish caller key version value overwrite) = AreParts key version (Put value)
IsProper (Delete caller key version) = AreParts key version Gone
IsProper (Sweep caller owner generation) = IsFloor (floor_of owner generation)
IsProper (Merge items) = AreItems items
IsProper _ = Unit {0}

abbrev pub IsProperEvent : Event → Type 0
IsProperEvent (Ask side command) = IsProper command
IsProperEvent _ = Unit {0}

-- A law: after any such events, everything brought in is a valid change or floor.
abbrev pub EventsBringItems : Type 0
EventsBringItems =
    (account : Account) (old new : World) (events : List (Event × Outcome)) → Fits account old → HappenAll old events new →
    ((e : Event × Outcome) → Contains events e → IsProperEvent e.0) →
    AreItems account.brought → AreItems (extended_all account events).brought
