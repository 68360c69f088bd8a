use Rattle.std.proofs.Common.{length}
use Rattle.ds_submap.proofs.TakeLemmas.{IsTesterForEach, TakingLeft}
use Rattle.ds_submap.proofs.take.take_packed.Given as goal

abbrev pub invariant-loop-item : goal.invariant-loop-item
invariant-loop-item l = record {
  left : TakingLeft l.filter l.fn.held l.fn.items l.items l.held l.count;
  asks : IsTesterForEach l.filter l.fn.items l.asker;
}

abbrev pub decreases-loop-item : goal.decreases-loop-item
decreases-loop-item l = length l.items
