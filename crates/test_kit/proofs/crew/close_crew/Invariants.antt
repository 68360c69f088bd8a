use Rattle.std.proofs.Common.{All, ◌≡◌}
use Rattle.std.specs.List.{AllByRecursion}
use Rattle.desk.specs.Pass.{desk_of}
use Rattle.test_kit.proofs.crew.close_crew.Given as goal

abbrev pub invariant-loop-worker : goal.invariant-loop-worker
invariant-loop-worker g l = All (λ w. desk_of w.pass ≡ l.fn.desk.table.shared.table_id) l.workers.items ×
    AllByRecursion (λ p. desk_of p ≡ l.fn.desk.table.shared.table_id) l.passes

abbrev pub decreases-loop-worker : goal.decreases-loop-worker
decreases-loop-worker g l = l.workers.len
