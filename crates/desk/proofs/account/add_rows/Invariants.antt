use Rattle.desk.proofs.RowLemmas.{AddedBelow}
use Rattle.desk.proofs.account.add_rows.Given as goal

abbrev pub invariant-loop-i : goal.invariant-loop-i
invariant-loop-i l = AddedBelow l.fn.sums l.fn.rows l.i l.sums
