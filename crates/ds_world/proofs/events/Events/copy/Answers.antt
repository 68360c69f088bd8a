use Rattle.std.proofs.Common.{arith}
use Rattle.ds_world.proofs.CopyLemmas.{copied_more}
use Rattle.ds_world.proofs.events.Events.copy.Goals as goal

pub loop-event-preserved : goal.loop-event-preserved
loop-event-preserved c =
    copied_more _ c.loop-event.events.items _ c.loop-event.event-index c.event-item.result c.in_ok-copy.field-0 (omega arith)
    c.loop-event.invariant c.in_ok-push.ensures.items c.in_ok-copy.ensures.same c.event-item.is
