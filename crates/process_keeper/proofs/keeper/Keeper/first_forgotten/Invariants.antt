use Rattle.std.proofs.Common.{◌≡◌, drop}
use Rattle.process_keeper.specs.Renewal.{first_forgotten}
use Rattle.process_keeper.proofs.keeper.Keeper.first_forgotten.Given as goal

-- no label before the index is forgotten
abbrev pub invariant-loop-k : goal.invariant-loop-k
invariant-loop-k l =
    first_forgotten l.sources l.k (drop l.k l.self.labels.items) ≡ first_forgotten l.sources 0 l.self.labels.items
