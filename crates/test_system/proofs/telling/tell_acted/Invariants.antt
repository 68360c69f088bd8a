use Rattle.std.proofs.Common.{◌≤◌}
use Rattle.test_system.proofs.telling.tell_acted.Given as goal

abbrev pub invariant-loop-index : goal.invariant-loop-index
invariant-loop-index l = l.told ≤ l.index
