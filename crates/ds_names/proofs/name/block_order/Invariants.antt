use Rattle.std.proofs.Common.{◌≡◌, ◌*◌, drop}
use Rattle.std.specs.Ordering.{nat_cmp}
use Rattle.std.specs.Cmp.Lexicographic.{slice_cmp}
use Rattle.ds_names.proofs.name.block_order.Given as goal

abbrev pub invariant-loop-at : goal.invariant-loop-at
invariant-loop-at l = slice_cmp nat_cmp (drop (8 * l.at) l.mine) (drop (8 * l.at) l.theirs) ≡ slice_cmp nat_cmp l.mine l.theirs
