use Rattle.trace_walk.proofs.NumberLemmas.{marked_is}
use Rattle.trace_walk.proofs.replies.is_marked.Goals as goal

pub returns-then-starts_with : goal.returns-then-starts_with
returns-then-starts_with c = marked_is c.args.line.now c.args.said.now c.eq.result c.if-starts_with.ensures.value c.eq.ensures
