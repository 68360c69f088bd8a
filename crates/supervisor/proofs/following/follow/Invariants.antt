use Rattle.std.proofs.Common.{◌≡◌}
use Rattle.supervisor.proofs.FollowLemmas.{FollowTo}
use Rattle.supervisor.proofs.following.follow.Given as goal

-- the labels before the index follow
abbrev pub invariant-loop-k : goal.invariant-loop-k
invariant-loop-k l =
    FollowTo l.rs l.deadline l.k l.fn.keeper.labels.items l.keeper.labels.items ×
    (l.keeper.next ≡ l.fn.keeper.next) × (l.keeper.file ≡ l.fn.keeper.file)
