use Rattle.std.proofs.Common.{refl, ◌∙◌, arith}
use Rattle.supervisor.proofs.FollowLemmas.{none_yet, one_more, walked}
use Rattle.supervisor.proofs.following.follow.Goals as goal

pub loop-k-init : goal.loop-k-init
loop-k-init c = (none_yet c.args.rs.now c.args.deadline c.args.keeper.now.labels.items, refl, refl)

pub loop-k-preserved : goal.loop-k-preserved
loop-k-preserved c = (
  one_more c.args.rs.now c.args.deadline c.loop-k.k c.args.keeper.now.labels.items c.loop-k.keeper.labels.items
      c.follow.new.self.labels.items
      c.generation_at.result c.follow.result c.loop-k.invariant.0
      (omega (arith, c.loop-k-test.true, c.len-k-end.ensures, c.loop-k.invariant.0.count)) c.generation_at.ensures
      c.follow.ensures.followed,
  c.follow.ensures.generations.0 ∙ c.loop-k.invariant.1,
  c.follow.ensures.generations.1 ∙ c.loop-k.invariant.2,
)

pub returns-clause-labels : goal.returns-clause-labels
returns-clause-labels c =
    walked c.args.rs.now c.args.deadline c.loop-k.k c.args.keeper.now.labels.items c.loop-k.keeper.labels.items
    (omega (arith, c.loop-k-test.false, c.len-k-end.ensures, c.loop-k.invariant.0.count)) c.loop-k.invariant.0
