-- The effects of an event's steps on what the code keeps: what goes to a store, and what a service writes.
use Rattle.std.specs.Prelude.{◌≡◌, ℕ, List, [], ◌∷◌, ◌++◌, length, Option, Some, None, Result}
use Rattle.ds_names.specs.declared.key.Key.{Key}
use Rattle.ds_entry.specs.declared.body.Body.{Body}
use Rattle.ds_entry.specs.declared.body.Body.TheVariants as bodies
use Rattle.ds_machine.specs.declared.command.Command.{Command}
use Rattle.ds_machine.specs.declared.reply.Reply.{Reply}
use Rattle.rs_core.specs.declared.state.Running.{Running}
use Rattle.ds_replica.specs.declared.event.Side.{Side}
use Rattle.ds_replica.specs.declared.event.Event.TheVariants.{Ask}
use Rattle.ds_replica.specs.declared.outcome.Outcome.TheVariants.{Replied}
use Rattle.ds_replica.specs.Happens.{HappenAll}
use Rattle.ds_world.specs.World.{WorldRecord, Leads}
use Rattle.ds_world.specs.Run.{EventLeads}
use Rattle.ds_world.specs.Told.{IsTold, AreTold}
use Rattle.ds_system.specs.declared.event.SystemEvent.{SystemEvent}
use Rattle.ds_system.specs.declared.event.SystemEvent.TheVariants as events
use Rattle.ds_system.specs.declared.outcome.SystemFault.{SystemFault}
use Rattle.ds_system.specs.Drawing.{Instance, judged}
use Rattle.ds_system.specs.Steps.{asks_replied, AreProper}
use Rattle.ds_system.specs.Stands.{SystemRecord}

-- A command, if there is one, went to the store of a side, and its reply was appended. The world reports it.
abbrev pub AskedIfAny : Side → Option Command → (before after : List Reply) → (old new : WorldRecord) → Type 0
AskedIfAny side None before after old new = (after ≡ before) × (new ≡ old)
AskedIfAny side (Some command) before after old new =
    (reply : Reply) × (after ≡ before ++ reply ∷ []) × EventLeads (Ask side command) (Replied reply) old new ×
    IsTold (Ask side command) (Replied reply) old new

-- Whether these commands went to the side's store, in order, with these replies, led from the old world to the new, and
-- were reported so.
pub record AllAsked (side : Side) (commands : List Command) (replies : List Reply) (old new : WorldRecord) : Type 0 where
  pub one_each : length replies ≡ length commands
  pub proper : AreProper (asks_replied side commands replies)
  pub leads : Leads (λ w after. HappenAll w (asks_replied side commands replies) after) old new
  pub told : AreTold old (asks_replied side commands replies) new

-- The event of a service's write: a Put of a value, or a Remove.
abbrev pub write_event : List ℕ → Key → Body → Side → SystemEvent
write_event label key (bodies.Put value) side = events.Put label key value side
write_event label key bodies.Gone side = events.Remove label key side

-- The running instance at a place.
abbrev pub instance_at : ℕ → Running → Instance
instance_at place running = record { place = place; running = running }

-- The judgement of a service's change, by what the code keeps.
abbrev pub judged_by : SystemRecord → List ℕ → Key → Body → Result Instance SystemFault
judged_by value label key content = judged value.rs value.numberers label key content
