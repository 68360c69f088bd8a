use Rattle.std.proofs.Common.{◌≡◌}
use Rattle.test_pairs.proofs.watch.WatchTaskBoxRsStore.work.Given as goal

abbrev pub invariant-loop-turn : goal.invariant-loop-turn
invariant-loop-turn g l = l.worker.pass.seat.table_id ≡ l.initial.worker.pass.seat.table_id
