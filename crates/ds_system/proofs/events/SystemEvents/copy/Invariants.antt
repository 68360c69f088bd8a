use Rattle.std.proofs.Common.{◌≡◌, take}
use Rattle.ds_system.proofs.events.SystemEvents.copy.Given as goal

abbrev pub invariant-loop-event : goal.invariant-loop-event
invariant-loop-event l = l.events.items ≡ take l.event-index l.event-items
