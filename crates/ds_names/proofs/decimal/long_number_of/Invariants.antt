use Rattle.std.proofs.Common.{◌≡◌, ◌<◌, ◌+◌, ◌^◌, take, drop}
use Rattle.std.specs.List.{prefix_len}
use Rattle.std.specs.Char.{is_ascii_digit}
use Rattle.std.specs.Str.Parse.{digits_value}
use Rattle.ds_names.proofs.decimal.long_number_of.Given as goal

abbrev pub invariant-loop-at : goal.invariant-loop-at
invariant-loop-at l = record {
  value : l.number ≡ digits_value 10 (take l.at (take (prefix_len is_ascii_digit l.bytes) l.bytes));
  limit : l.number < 2 ^ 64;
  run : l.at + prefix_len is_ascii_digit (drop l.at l.bytes) ≡ prefix_len is_ascii_digit l.bytes;
}
