use Rattle.std.proofs.Common.{◌≡◌, length}
use Rattle.std.specs.List.{All}
use Rattle.process_rule.specs.Supervisor.{new_service}
use Rattle.process_keeper.specs.Sight.{service}
use Rattle.process_keeper.proofs.keeper.Keeper.new.Given as goal

abbrev pub invariant-loop-k : goal.invariant-loop-k
invariant-loop-k l = (length l.labels.items ≡ l._k) × All (λ p. service p ≡ new_service) l.labels.items
