use Rattle.std.proofs.Common.{◌≡◌}
use Rattle.desk.specs.Pass.{desk_of}
use Rattle.desk_store.specs.Record.{pass_record}
use Rattle.desk_store.specs.KeepsUp.{KeepsUpWith}
use Rattle.test_threads.proofs.watch.follow_often.Given as goal

abbrev pub invariant-loop-turn : goal.invariant-loop-turn
invariant-loop-turn g l = (desk_of l.worker.pass ≡ desk_of l.fn.worker.pass) × KeepsUpWith (pass_record l.worker.pass) l.follower
