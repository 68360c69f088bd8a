use Rattle.std.proofs.Common.{◌≡◌, ◌≤◌, ◌++◌, length, map, take, drop}
use Rattle.std.specs.List.{concat}
use Rattle.ds_line.specs.ItemSpelling.{item_spelling}
use Rattle.c_values.proofs.giving.give_lines.Given as goal

abbrev pub invariant-loop-count : goal.invariant-loop-count
invariant-loop-count l = record {
  taken : l.taken ≡ length (concat (take l.count (map item_spelling l.items)));
  fits : l.taken ≤ length l.room;
  room : l.room ≡ concat (take l.count (map item_spelling l.items)) ++ drop l.taken l.initial.room;
}
