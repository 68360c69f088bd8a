use Rattle.ds_submap.proofs.TakeLemmas.{IsTesterForEach, Taking}
use Rattle.ds_submap.proofs.take.take_items.Given as goal

abbrev pub invariant-loop-item : goal.invariant-loop-item
invariant-loop-item l = record {
  taking : Taking l.filter l.fn.held l.items l.item-index l.held l.count;
  asks : IsTesterForEach l.filter l.items l.asker;
}
