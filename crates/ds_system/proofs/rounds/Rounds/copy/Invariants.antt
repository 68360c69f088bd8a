use Rattle.std.proofs.Common.{◌≡◌, take}
use Rattle.ds_system.proofs.rounds.Rounds.copy.Given as goal

abbrev pub invariant-loop-round : goal.invariant-loop-round
invariant-loop-round l = l.rounds.items ≡ take l.round-index l.round-items
