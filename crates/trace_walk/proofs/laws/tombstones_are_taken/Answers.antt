use Rattle.trace_walk.proofs.TombstoneLemmas.{tombstones_are_free, tombstones_are_taken}
use Rattle.trace_walk.proofs.laws.tombstones_are_taken.Goals as goal

pub returns : goal.returns
returns c = record { free = tombstones_are_free; taken = tombstones_are_taken }
