-- The steps of a system's event: events of its world, and turns of its driver tables.
use Rattle.std.specs.Prelude.{Bool, true, false, List, [], ◌∷◌, Option, Some, None, Contains}
use Rattle.ds_machine.specs.declared.command.Command.{Command}
use Rattle.ds_machine.specs.declared.command.Command.TheVariants.{Publish, Delete, Sweep, Merge}
use Rattle.ds_machine.specs.declared.reply.Reply.{Reply}
use Rattle.ds_replica.specs.declared.event.Side.{Side}
use Rattle.ds_replica.specs.declared.event.Event.{Event}
use Rattle.ds_replica.specs.declared.event.Event.TheVariants.{Ask}
use Rattle.ds_replica.specs.declared.outcome.Outcome.{Outcome}
use Rattle.ds_replica.specs.declared.outcome.Outcome.TheVariants.{Replied}
use Rattle.ds_replica.specs.Bringing.{IsProperEvent}
use Rattle.ds_system.specs.declared.event.Table.{Table}
use Rattle.ds_system.specs.declared.event.Table.TheVariants.{File, Net}
use Rattle.ds_system.specs.Turn.{TableTurn}

-- The events of the world, each with its outcome.
abbrev pub WorldEvents : Type 0
WorldEvents = List (Event × Outcome)

pub record Steps : Type 0 where
  pub events : WorldEvents
  -- the turns of the file server's and the network server's tables, if they had one
  pub file : Option TableTurn
  pub net : Option TableTurn

abbrev pub no_steps : Steps
no_steps = record { events = []; file = None; net = None }

-- The steps of these events of the world, without a turn.
abbrev pub events_alone : WorldEvents → Steps
events_alone events = record no_steps { events = events }

-- The steps in which one table has this turn, and nothing else happens.
abbrev pub turn_alone : Table → TableTurn → Steps
turn_alone File turn = record no_steps { file = Some turn }
turn_alone Net turn = record no_steps { net = Some turn }

-- The turn of a server's table, if it had one.
abbrev pub turn_in : Steps → Table → Option TableTurn
turn_in steps File = steps.file
turn_in steps Net = steps.net

-- The Asks of these commands, in order, to the store of the side, each with its reply.
abbrev pub asks_replied : Side → List Command → List Reply → WorldEvents
asks_replied side [] replies = []
asks_replied side (command ∷ commands) [] = []
asks_replied side (command ∷ commands) (reply ∷ replies) = (Ask side command, Replied reply) ∷ asks_replied side commands replies

-- Whether the parts of these events are in the ranges of their types.
abbrev pub AreProper : WorldEvents → Type 0
AreProper events = (e : Event × Outcome) → Contains events e → IsProperEvent e.0

-- Whether the command brings something in.
abbrev pub is_bringing : Command → Bool
is_bringing (Publish caller key version value overwrite) = true
is_bringing (Delete caller key version) = true
is_bringing (Sweep caller owner generation) = true
is_bringing (Merge items) = true
is_bringing _ = false

-- Whether the event is an Ask of such a command, which only RS and the services may make.
abbrev pub is_barred : Event → Bool
is_barred (Ask side command) = is_bringing command
is_barred _ = false
