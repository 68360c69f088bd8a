use Rattle.std.proofs.Common.{◌≡◌, ◌++◌, length}
use Rattle.ds_replica.proofs.message.unpacked.Given as goal

abbrev pub invariant-loop-item : goal.invariant-loop-item
invariant-loop-item l = l.items ++ l.left ≡ l.packed

abbrev pub decreases-loop-item : goal.decreases-loop-item
decreases-loop-item l = length l.left
