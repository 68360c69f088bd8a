use Rattle.std.proofs.Common.{length}
use Rattle.ds_world.specs.Tally.{tally_of}
use Rattle.ds_world.proofs.MergeLemmas.{Delivering}
use Rattle.ds_world.proofs.world.delivering.merge_slice.Given as goal

abbrev pub invariant-loop-left : goal.invariant-loop-left
invariant-loop-left l = Delivering l.fn.store l.items l.left (tally_of l.tally) l.store

abbrev pub decreases-loop-left : goal.decreases-loop-left
decreases-loop-left l = length l.left
