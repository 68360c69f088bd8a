use Rattle.trace_walk.proofs.NumberLemmas.{stopped_is_there, not_stopped, not_same, are_same}
use Rattle.std.proofs.Common.{codes}
use Rattle.trace_walk.proofs.replies.stopped_at.Goals as goal

pub returns-then-ne-clause-none : goal.returns-then-ne-clause-none
returns-then-ne-clause-none c =
    not_stopped c.args.line.now c.in_ok-done.rest.now c.in_ok-done.done c.in_ok-done.ensures.limit c.in_ok-done.ensures.found
    (not_same c.in_ok-done.rest.now c.as_slice.result.now (codes "noroom\n") c.if-ne.ensures c.as_slice.ensures)

pub returns-clause-found : goal.returns-clause-found
returns-clause-found c = (
  c.in_ok-done.ensures.limit,
  stopped_is_there c.args.line.now c.in_ok-done.rest.now c.in_ok-done.done c.if-not-starts_with.ensures.value c.in_ok-done.ensures.found
      (are_same c.in_ok-done.rest.now c.as_slice.result.now (codes "noroom\n") c.if-ne.ensures c.as_slice.ensures),
)
