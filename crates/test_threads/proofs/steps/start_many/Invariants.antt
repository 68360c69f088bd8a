use Rattle.std.proofs.Common.{◌≡◌}
use Rattle.desk.specs.Desk.{identity}
use Rattle.desk.specs.Pass.{desk_of}
use Rattle.test_threads.proofs.steps.start_many.Given as goal

-- the pass is of the desk
abbrev pub invariant-loop-number : goal.invariant-loop-number
invariant-loop-number g l = desk_of l.pass ≡ identity l.desk
