use Rattle.std.proofs.Common.{take}
use Rattle.std.specs.List.{All}
use Rattle.process_keeper.specs.Doing.{IsSettled}
use Rattle.process_keeper.proofs.keeper.Keeper.start.Given as goal

abbrev pub invariant-loop-k : goal.invariant-loop-k
invariant-loop-k l = All (λ p. IsSettled p l.now) (take l.k l.self.labels.items)
