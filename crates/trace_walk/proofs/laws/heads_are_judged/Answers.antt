use Rattle.trace_walk.proofs.WalkLemmas.{bad_head, no_reply}
use Rattle.trace_walk.proofs.laws.heads_are_judged.Goals as goal

pub returns : goal.returns
returns c = record { wrong = bad_head; place = no_reply }
