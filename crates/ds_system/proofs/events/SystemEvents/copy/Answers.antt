use Rattle.std.proofs.Common.{arith}
use Rattle.ds_world.proofs.CopyLemmas.{copied_more}
use Rattle.ds_system.proofs.events.SystemEvents.copy.Goals as goal

pub loop-event-preserved : goal.loop-event-preserved
loop-event-preserved c =
    copied_more _ c.loop-event.events.items _ c.loop-event.event-index c.event-item.result c.in_ok-event_again.field-0 (omega arith)
    c.loop-event.invariant c.in_ok-push.ensures.items c.in_ok-event_again.ensures c.event-item.is
