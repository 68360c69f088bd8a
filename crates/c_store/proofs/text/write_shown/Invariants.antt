use Rattle.std.proofs.Common.{◌≡◌, take}
use Rattle.std.specs.List.{flat_map}
use Rattle.ds_line.specs.ItemSpelling.{item_spelling}
use Rattle.c_store.proofs.text.write_shown.Given as goal

-- the lines so far
abbrev pub invariant-loop-item : goal.invariant-loop-item
invariant-loop-item l = l.text.items ≡ flat_map item_spelling (take l.item-index l.items)
