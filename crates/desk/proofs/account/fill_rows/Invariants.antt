use Rattle.std.proofs.Common.{◌≤◌, vec_capacity}
use Rattle.desk.proofs.RowLemmas.{FilledBelow}
use Rattle.desk.proofs.account.fill_rows.Given as goal

abbrev pub invariant-loop-i : goal.invariant-loop-i
invariant-loop-i l = FilledBelow l.fn.pending l.fn.raises l.fn.takes l.i l.rows.items × (128 ≤ vec_capacity l.rows)
