use Rattle.std.proofs.Common.{◌≡◌, None, length}
use Rattle.ds_world.specs.Tally.{tally_of}
use Rattle.ds_world.proofs.MergeLemmas.{Delivering}
use Rattle.ds_world.proofs.world.delivering.merge_packed.Given as goal

abbrev pub invariant-loop-item : goal.invariant-loop-item
invariant-loop-item l = record {
  delivering : Delivering l.fn.store l.fn.items l.items (tally_of l.tally) l.store;
  goes_on : l.tally.stop ≡ None;
}

abbrev pub decreases-loop-item : goal.decreases-loop-item
decreases-loop-item l = length l.items
