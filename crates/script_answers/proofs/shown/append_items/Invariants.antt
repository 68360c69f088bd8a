use Rattle.std.proofs.Common.{◌≡◌, ◌++◌, take}
use Rattle.std.specs.List.{flat_map}
use Rattle.ds_line.specs.ItemSpelling.{item_spelling}
use Rattle.script_answers.proofs.shown.append_items.Given as goal

abbrev pub invariant-loop-item : goal.invariant-loop-item
invariant-loop-item l = record {
  written : l.buffer.items ≡ l.initial.buffer.items ++ flat_map item_spelling (take l.item-index l.items);
}
