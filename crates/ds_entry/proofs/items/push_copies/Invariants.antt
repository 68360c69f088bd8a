use Rattle.std.proofs.Common.{◌≡◌, ◌++◌, take}
use Rattle.ds_entry.proofs.items.push_copies.Given as goal

-- the first ones are there
abbrev pub invariant-loop-item : goal.invariant-loop-item
invariant-loop-item l = record { added : l.items.items ≡ l.initial.items.items ++ take l.item-index l.more }
