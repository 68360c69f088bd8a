use Rattle.std.proofs.Common.{◌≡◌, ◌≤◌, ◌-◌, filter, take, length}
use Rattle.ds_held.specs.Held.{held_items}
use Rattle.ds_content.specs.Shown.{is_to_show}
use Rattle.ds_content.proofs.content.showing.first_unseen.Given as goal

-- what is to be shown of the items so far
abbrev pub invariant-loop-content : goal.invariant-loop-content
invariant-loop-content l = record {
  shown : l.items ≡ filter (is_to_show l.held l.sub) (take l.passed (held_items l.held.held));
  few : length l.items ≤ l.max;
  within : l.passed ≤ length (held_items l.held.held);
}

abbrev pub decreases-loop-content : goal.decreases-loop-content
decreases-loop-content l = length (held_items l.held.held) - l.passed
