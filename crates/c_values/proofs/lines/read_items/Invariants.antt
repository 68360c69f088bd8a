use Rattle.std.proofs.Common.{◌≡◌, ◌++◌, length}
use Rattle.std.specs.List.{All, flat_map}
use Rattle.ds_entry.specs.Item.{IsItem}
use Rattle.ds_line.specs.ItemSpelling.{item_spelling}
use Rattle.c_values.proofs.lines.read_items.Given as goal

abbrev pub invariant-loop-rest : goal.invariant-loop-rest
invariant-loop-rest l = record {
  each : All IsItem l.items;
  so_far : l.text ≡ flat_map item_spelling l.items ++ l.rest;
}

abbrev pub decreases-loop-rest : goal.decreases-loop-rest
decreases-loop-rest l = length l.rest
