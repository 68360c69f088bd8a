use Rattle.std.proofs.Common.{◌≡◌, ◌≤◌, ◌-◌, map, take, length}
use Rattle.ds_held.specs.Held.{held_floors}
use Rattle.ds_held.specs.Kept.{floored}
use Rattle.ds_content.proofs.content.paging.first_floors.Given as goal

-- the first floors
abbrev pub invariant-loop-floor : goal.invariant-loop-floor
invariant-loop-floor l = record {
  copied : l.items ≡ map floored (take l.index (held_floors l.held));
  within : l.index ≤ length (held_floors l.held);
}

abbrev pub decreases-loop-floor : goal.decreases-loop-floor
decreases-loop-floor l = length (held_floors l.held) - l.index
