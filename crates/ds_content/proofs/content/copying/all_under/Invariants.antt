use Rattle.std.proofs.Common.{◌≡◌, ◌≤◌, ◌-◌, filter, take, length}
use Rattle.ds_entry.specs.Item.{passes}
use Rattle.ds_held.specs.Held.{held_items}
use Rattle.ds_content.proofs.content.copying.all_under.Given as goal

-- what is under the scope of the items so far
abbrev pub invariant-loop-items : goal.invariant-loop-items
invariant-loop-items g l = record {
  kept : l.items ≡ filter (passes (g.S.KeyScope.keeps l.fn.scope)) (take l.index (held_items l.held));
  within : l.index ≤ length (held_items l.held);
  same : g.S.KeyScope.keeps l.scope ≡ g.S.KeyScope.keeps l.fn.scope;
}

abbrev pub decreases-loop-items : goal.decreases-loop-items
decreases-loop-items g l = length (held_items l.held) - l.index
