use Rattle.std.proofs.Common.{sym, ◌∙◌, arith}
use Rattle.c_keeper.proofs.CountLemmas.{none_yet, one_more, all_walked}
use Rattle.c_keeper.proofs.counted.first_counted.Goals as goal

pub loop-k-init : goal.loop-k-init
loop-k-init c = none_yet c.args.rs.now

pub loop-k-preserved : goal.loop-k-preserved
loop-k-preserved c =
    one_more c.args.rs.now c.loop-k.k c.endpoint_at.result c.loop-k.invariant c.endpoint_at.ensures
    (sym c.is_some.ensures ∙ c.if-is_some.false)

pub returns-clause-none : goal.returns-clause-none
returns-clause-none c n =
    all_walked c.args.rs.now c.loop-k.k c.loop-k.invariant
    (omega (arith, c.loop-k-test.false, c.count_of-k-end.ensures.states))
