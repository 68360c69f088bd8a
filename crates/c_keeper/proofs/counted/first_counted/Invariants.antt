use Rattle.c_keeper.proofs.CountLemmas.{NoneBefore}
use Rattle.c_keeper.proofs.counted.first_counted.Given as goal

-- no service before the index has an instance
abbrev pub invariant-loop-k : goal.invariant-loop-k
invariant-loop-k l = NoneBefore l.rs l.k
