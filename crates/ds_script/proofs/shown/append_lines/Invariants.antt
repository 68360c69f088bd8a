use Rattle.std.proofs.Common.{◌≡◌, ◌≤◌, ◌++◌, length, take}
use Rattle.std.specs.List.{flat_map}
use Rattle.ds_line.specs.ItemSpelling.{item_spelling}
use Rattle.ds_script.specs.Answer.{picked}
use Rattle.ds_script.proofs.shown.append_lines.Given as goal

abbrev pub invariant-loop-item : goal.invariant-loop-item
invariant-loop-item l = record {
  lines : l.output.items ≡ l.initial.output.items ++ flat_map item_spelling (picked l.all (take l.item-index l.items));
  count : l.count ≡ length (picked l.all (take l.item-index l.items));
  few : l.count ≤ l.item-index;
}
