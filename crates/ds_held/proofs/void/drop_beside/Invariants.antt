use Rattle.ds_held.proofs.DropLemmas.{Dropped}
use Rattle.ds_held.proofs.void.drop_beside.Given as goal

abbrev pub invariant-loop-i : goal.invariant-loop-i
invariant-loop-i g l = Dropped l.floor l.fn.changes l.fn.marks l.changes l.marks l.i l.count

abbrev pub decreases-loop-i : goal.decreases-loop-i
decreases-loop-i g l = l.i
