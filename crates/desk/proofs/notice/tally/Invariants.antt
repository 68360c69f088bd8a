use Rattle.desk.proofs.TallyLemmas.{CountsBelow}
use Rattle.desk.proofs.notice.tally.Given as goal

abbrev pub invariant-loop-bit : goal.invariant-loop-bit
invariant-loop-bit l = CountsBelow l.fn.rows l.server l.bits l.bit l.rows
