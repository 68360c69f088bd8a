use Rattle.std.proofs.Common.{◌≡◌, ◌≤◌, length, take}
use Rattle.ds_held.specs.Held.{held_changes}
use Rattle.trace_walk.proofs.SweepLemmas.{gone_of}
use Rattle.trace_walk.proofs.sweep.tombstones.Given as goal

-- those of the changes so far
abbrev pub invariant-loop-index : goal.invariant-loop-index
invariant-loop-index l = record {
  all : l.gone ≡ gone_of l.sweep.owner l.sweep.generation (take l.index (held_changes l.held));
  few : length l.gone ≤ l.index;
}
