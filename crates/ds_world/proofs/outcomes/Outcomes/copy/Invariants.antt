use Rattle.std.proofs.Common.{◌≡◌, take}
use Rattle.ds_world.proofs.outcomes.Outcomes.copy.Given as goal

abbrev pub invariant-loop-outcome : goal.invariant-loop-outcome
invariant-loop-outcome l = l.outcomes.items ≡ take l.outcome-index l.outcome-items
