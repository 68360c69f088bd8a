use Rattle.trace_walk.proofs.OneReplyLemmas.{reply_is_one}
use Rattle.trace_walk.proofs.laws.replies_are_one.Goals as goal

pub returns : goal.returns
returns c = reply_is_one
