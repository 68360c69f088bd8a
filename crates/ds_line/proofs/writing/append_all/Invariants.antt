use Rattle.std.proofs.Common.{◌≡◌, ◌++◌, take}
use Rattle.std.specs.List.{flat_map}
use Rattle.ds_line.proofs.writing.append_all.Given as goal

abbrev pub invariant-loop-text : goal.invariant-loop-text
invariant-loop-text l = record {
  written : l.buffer.items ≡ l.initial.buffer.items ++ flat_map (λ text. text.now) (take l.text-index l.texts);
}
