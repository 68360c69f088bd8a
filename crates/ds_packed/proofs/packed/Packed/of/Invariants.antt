use Rattle.std.proofs.Common.{◌≡◌, take}
use Rattle.ds_packed.proofs.packed.Packed.of.Given as goal

abbrev pub invariant-loop-item : goal.invariant-loop-item
invariant-loop-item l = l.packed ≡ take l.item-index l.fn.items
