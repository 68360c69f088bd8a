use Rattle.desk.proofs.PostLemmas.{Posting}
use Rattle.desk.proofs.notice.post_owed.Given as goal

abbrev pub invariant-loop-server : goal.invariant-loop-server
invariant-loop-server g l = Posting l.fn.seat l.seat l.server l.fn.owed l.raises l.raised
