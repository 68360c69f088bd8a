use Rattle.std.proofs.Common.{◌≡◌, ◌+◌, ◌*◌, ◌<◌, ◌≤◌, ◌++◌, length, List}
use Rattle.ds_entry.specs.declared.item.Item.{Item}
use Rattle.ds_content.specs.Stands.{ContentStands}
use Rattle.ds_machine.specs.State.{State, takes_effect, owed}
use Rattle.ds_machine.specs.Batches.{AreFree}
use Rattle.trace_walk.proofs.SweepLemmas.{AreMerged}
use Rattle.trace_walk.proofs.sweep.sweep_older.Given as goal

-- the store took the first of the tombstones, with this mask, and the Merges merge them
abbrev pub invariant-loop-rest : goal.invariant-loop-rest
invariant-loop-rest l = record {
  some : 0 < length l.rest → 256 * l.merges.count + length l.rest ≤ 4096;
  few : 256 * l.merges.count + length l.rest ≤ 4351;
  taken : (s : State) → ContentStands l.fn.store s → AreFree s l.initial.rest →
      (part : List Item) × (l.initial.rest ≡ part ++ l.rest) × ContentStands l.store (takes_effect s part) × (l.owed ≡ owed s part) ×
      AreMerged s l.fn.pass l.fn.limits part l.rest l.merges;
}

abbrev pub decreases-loop-rest : goal.decreases-loop-rest
decreases-loop-rest l = length l.rest
