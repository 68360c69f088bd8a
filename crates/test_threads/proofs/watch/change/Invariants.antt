use Rattle.std.proofs.Common.{◌≡◌}
use Rattle.desk.specs.Pass.{desk_of}
use Rattle.test_threads.proofs.watch.change.Given as goal

abbrev pub invariant-loop-turn : goal.invariant-loop-turn
invariant-loop-turn g l = desk_of l.worker.pass ≡ desk_of l.fn.worker.pass
