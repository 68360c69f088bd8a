use Rattle.std.proofs.Common.{◌≡◌, length}
use Rattle.ds_held.specs.Held.{held_items}
use Rattle.driver_tables.specs.DriverTable.{DriverTable}
use Rattle.driver_tables.specs.Stands.{TableStands}
use Rattle.rs_to_store.proofs.FollowLemmas.{AllWalked}
use Rattle.rs_to_store.proofs.following.follow.Given as goal

-- the labels before the index were followed, and the table still has as many units as the loop walks
abbrev pub invariant-loop-index : goal.invariant-loop-index
invariant-loop-index g l = record {
  walked : AllWalked (held_items l.map.held) (g.T.Drivers.kept l.fn.table) l.fn.rounds.items l.index (g.T.Drivers.kept l.table)
      l.rounds.items;
  count : (t : DriverTable) → TableStands (g.T.Drivers.kept l.fn.table) t → l.index-end ≡ length t.units;
}
