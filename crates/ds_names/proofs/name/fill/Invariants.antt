use Rattle.std.proofs.Common.{◌≡◌, ◌≤◌, ◌+◌, drop}
use Rattle.std.specs.List.{prefix_len}
use Rattle.ds_names.specs.Name.{is_name_byte}
use Rattle.ds_names.specs.NameBlock.{filled}
use Rattle.ds_names.proofs.name.fill.Given as goal

abbrev pub invariant-loop-at : goal.invariant-loop-at
invariant-loop-at l = record {
  block : l.block ≡ filled l.bytes l.at;
  fits : l.at ≤ 64;
  run : l.at + prefix_len is_name_byte (drop l.at l.bytes) ≡ prefix_len is_name_byte l.bytes;
}
