use Rattle.std.proofs.Common.{◌≡◌, ℕ, ◌<◌, ◌≤◌, false, Some}
use Rattle.std.specs.Prelude.{slice_get}
use Rattle.ds_watch.specs.declared.masks.Masks.{Masks}
use Rattle.ds_content.specs.Shown.{says_unseen}
use Rattle.ds_content.proofs.content.marking.next_change.Given as goal

-- the masks so far say nothing
abbrev pub invariant-loop-index : goal.invariant-loop-index
invariant-loop-index l = (k : ℕ) (m : Masks) → slice_get l.marks k ≡ Some m → l.from ≤ k → k < l.index → says_unseen l.sub m ≡ false
