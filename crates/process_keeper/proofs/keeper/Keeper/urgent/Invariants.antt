use Rattle.std.proofs.Common.{take}
use Rattle.std.specs.List.{All}
use Rattle.process_keeper.specs.Order.{IsCalm}
use Rattle.process_keeper.proofs.keeper.Keeper.urgent.Given as goal

abbrev pub invariant-loop-k : goal.invariant-loop-k
invariant-loop-k l = All (λ p. IsCalm p l.now) (take l.k l.self.labels.items)
