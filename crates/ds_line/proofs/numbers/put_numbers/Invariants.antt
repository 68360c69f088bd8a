use Rattle.std.proofs.Common.{◌≡◌, ◌++◌, take}
use Rattle.std.specs.List.{flat_map}
use Rattle.std.specs.Fmt.{decimal}
use Rattle.ds_line.proofs.numbers.put_numbers.Given as goal

abbrev pub invariant-loop-before : goal.invariant-loop-before
invariant-loop-before l = record {
  written : l.buffer.items ≡ l.initial.buffer.items ++ flat_map (λ n. n.0.now ++ decimal n.1) (take l.before-index l.numbers);
}
