use Rattle.std.proofs.Common.{arith}
use Rattle.ds_world.proofs.CopyLemmas.{copied_more}
use Rattle.ds_world.proofs.outcomes.Outcomes.copy.Goals as goal

pub loop-outcome-preserved : goal.loop-outcome-preserved
loop-outcome-preserved c =
    copied_more _ c.loop-outcome.outcomes.items _ c.loop-outcome.outcome-index c.outcome-item.result c.in_ok-copy.field-0 (omega arith)
    c.loop-outcome.invariant c.in_ok-push.ensures.items c.in_ok-copy.ensures.same c.outcome-item.is
