use Rattle.std.proofs.Common.{◌∙◌, sym}
use Rattle.trace_walk.proofs.AskedLemmas.{no_count}
use Rattle.trace_walk.proofs.NumberLemmas.{slice_end, some_left}
use Rattle.trace_walk.proofs.asked.read_merge.Goals as goal

pub returns-then-not-is_empty-clause-none : goal.returns-then-not-is_empty-clause-none
returns-then-not-is_empty-clause-none c =
    no_count c.args.text.now c.in_ok-count.rest.now c.in_ok-count.count c.in_ok-count.ensures.limit
    (some_left c.in_ok-count.rest.now c.if-not-is_empty.ensures) (sym (slice_end 6 c.args.text.now) ∙ c.in_ok-count.ensures.found)
