-- Where a copy of an event or an outcome may run out of memory.
use Rattle.std.specs.Prelude.{◌≢◌, []}
use Rattle.ds_machine.specs.Copying.{CommandCopyTakesMemory, ReplyCopyTakesMemory}
use Rattle.ds_replica.specs.declared.event.Event.{Event}
use Rattle.ds_replica.specs.declared.event.Event.TheVariants.{Ask, NewMap}
use Rattle.ds_replica.specs.declared.outcome.Outcome.{Outcome}
use Rattle.ds_replica.specs.declared.outcome.Outcome.TheVariants.{Replied}

-- A copy of the event takes memory: a copy of its command does, or it has a pattern's text.
abbrev pub EventCopyTakesMemory : Event → Type 0
EventCopyTakesMemory (Ask side command) = CommandCopyTakesMemory command
EventCopyTakesMemory (NewMap query) = query.text ≢ []
EventCopyTakesMemory _ = ⊥

-- A copy of the outcome takes memory: a copy of its reply does.
abbrev pub OutcomeCopyTakesMemory : Outcome → Type 0
OutcomeCopyTakesMemory (Replied reply) = ReplyCopyTakesMemory reply
OutcomeCopyTakesMemory _ = ⊥
