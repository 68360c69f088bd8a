use Rattle.std.proofs.Common.{◌≡◌, take}
use Rattle.ds_world.proofs.events.Events.copy.Given as goal

abbrev pub invariant-loop-event : goal.invariant-loop-event
invariant-loop-event l = l.events.items ≡ take l.event-index l.event-items
