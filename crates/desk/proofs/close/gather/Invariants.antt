use Rattle.std.proofs.Common.{◌≡◌}
use Rattle.std.specs.List.{AllByRecursion}
use Rattle.desk.specs.Pass.{desk_of}
use Rattle.desk.proofs.CloseLemmas.{Gathers}
use Rattle.desk.proofs.close.gather.Given as goal

abbrev pub invariant-loop-pass : goal.invariant-loop-pass
invariant-loop-pass g l = Gathers l.fn.seat l.seat l.fn.others.items l.others.items l.raise_sums l.take_sums ×
    AllByRecursion (λ p. desk_of p ≡ l.fn.shared.table_id) l.others.items

abbrev pub decreases-loop-pass : goal.decreases-loop-pass
decreases-loop-pass g l = goal.left-loop-pass g l
