use Rattle.std.proofs.Common.{◌≡◌, ◌≤◌, ◌-◌, drop, length}
use Rattle.ds_held.specs.Held.{held_changes}
use Rattle.ds_content.specs.Paging.{ChangesArePaged}
use Rattle.ds_content.proofs.content.paging.add_changes.Given as goal

-- of the changes so far those under the scope were added
abbrev pub invariant-loop-change : goal.invariant-loop-change
invariant-loop-change g l = record {
  low : l.first ≤ l.index;
  paged : ChangesArePaged (g.S.KeyScope.keeps l.fn.scope) (drop l.first (held_changes l.held)) (l.index - l.first) l.fn.max l.left
      l.fn.items l.items;
  same : g.S.KeyScope.keeps l.scope ≡ g.S.KeyScope.keeps l.fn.scope;
}

abbrev pub decreases-loop-change : goal.decreases-loop-change
decreases-loop-change g l = length (held_changes l.held) - l.index
