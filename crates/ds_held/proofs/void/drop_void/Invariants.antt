use Rattle.ds_held.proofs.DropLemmas.{DroppedAlone}
use Rattle.ds_held.proofs.void.drop_void.Given as goal

abbrev pub invariant-loop-i : goal.invariant-loop-i
invariant-loop-i l = DroppedAlone l.floor l.fn.changes l.changes l.i

abbrev pub decreases-loop-i : goal.decreases-loop-i
decreases-loop-i l = l.i
