use Rattle.std.proofs.Common.{sym, ◌∙◌, arith}
use Rattle.process_keeper.specs.Doing.{IsSettled}
use Rattle.process_keeper.proofs.Walking.{one_more, walked}
use Rattle.process_keeper.proofs.keeper.Keeper.start.Goals as goal

pub loop-k-preserved : goal.loop-k-preserved
loop-k-preserved c =
    one_more (λ p. IsSettled p c.args.now) c.args.self.now.labels.items c.loop-k.k c.index.result.now
    (omega (arith, c.loop-k-test.true, c.len-k-end.ensures, c.args.self.now.labels.ok.0))
    c.loop-k.invariant c.index.ensures (c.task-task.ensures.settled (sym c.is_rest.ensures ∙ c.if-not-is_rest.false))

pub returns-clause-rest : goal.returns-clause-rest
returns-clause-rest c n =
    walked (λ p. IsSettled p c.args.now) c.args.self.now.labels.items c.loop-k.k
    (omega (arith, c.loop-k-test.false, c.len-k-end.ensures, c.args.self.now.labels.ok.0)) c.loop-k.invariant
