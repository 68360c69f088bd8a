use Rattle.std.proofs.Common.{◌≡◌, ◌≤◌, map, length, take}
use Rattle.ds_join.specs.Count.{CanCountOne}
use Rattle.ds_watch.specs.Mask.{padded}
use Rattle.ds_machine.specs.State.{State}
use Rattle.ds_machine.specs.Subscription.{is_owed}
use Rattle.ds_machine.specs.Merging.{course}
use Rattle.ds_content.specs.Stands.{ContentStands}
use Rattle.ds_store.proofs.MergeLemmas.{Reached}
use Rattle.ds_store.proofs.store.Store.fast_merge.Given as goal

-- the items so far are merged, and `total` has the subscriptions that are owed them
abbrev pub invariant-loop-item : goal.invariant-loop-item
invariant-loop-item l = record {
  counted : l.item-index ≡ l.count.done;
  few : length l.items ≤ 256;
  can : CanCountOne l.count;
  owed : (s : State) → ContentStands l.fn.self s →
      l.owed ≡ padded (map (is_owed (course s (take l.count.done l.items)).taken) s.subscriptions);
  reached : (s : State) → ContentStands l.fn.self s →
      Reached (course s (take l.count.done l.items)) l.count × ContentStands l.self (course s (take l.count.done l.items)).state;
}
