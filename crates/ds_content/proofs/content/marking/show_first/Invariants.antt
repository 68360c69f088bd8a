use Rattle.std.proofs.Common.{◌≡◌, length, filter, take, ◌≤◌}
use Rattle.ds_held.specs.Held.{held_items}
use Rattle.ds_content.specs.Shown.{is_to_show}
use Rattle.ds_content.proofs.BackLemmas.{AreMarkedFrom}
use Rattle.ds_content.proofs.content.marking.show_first.Given as goal

-- the items from the index on were marked
abbrev pub invariant-loop-left : goal.invariant-loop-left
invariant-loop-left l = record {
  marked : AreMarkedFrom l.fn.held l.held l.index l.count l.sub;
  left : l.left ≡ length (filter (is_to_show l.fn.held l.sub) (take l.index (held_items l.fn.held.held)));
  within : l.index ≤ l.count;
}

abbrev pub decreases-loop-left : goal.decreases-loop-left
decreases-loop-left l = l.index
