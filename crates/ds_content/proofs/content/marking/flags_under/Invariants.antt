use Rattle.std.proofs.Common.{◌≡◌, ◌≤◌, ◌-◌, map, take, length}
use Rattle.ds_held.specs.Held.{held_items}
use Rattle.ds_content.proofs.content.marking.flags_under.Given as goal
use Rattle.ds_pattern.specs.Under.{is_under}
use Rattle.ds_entry.specs.Item.{passes}

-- the flags of the first items
abbrev pub invariant-loop-is_under : goal.invariant-loop-is_under
invariant-loop-is_under l = record {
  flags : l.flags.items ≡ map (passes (is_under l.filter)) (take (length l.flags.items) (held_items l.held));
  within : length l.flags.items ≤ length (held_items l.held);
  asker : l.asker ≡ l.filter;
}

abbrev pub decreases-loop-is_under : goal.decreases-loop-is_under
decreases-loop-is_under l = length (held_items l.held) - length l.flags.items
