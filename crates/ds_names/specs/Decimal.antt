-- The number that the digits at the front of a text write.
use Rattle.std.specs.Prelude.{ℕ, List, take}
use Rattle.std.specs.List.{prefix_len}
use Rattle.std.specs.Char.{is_ascii_digit}
use Rattle.std.specs.Str.Parse.{digits_value}

-- The number that the longest run of digits at the front writes, leading zeros included; 0 if there is no digit.
abbrev pub leading_number : List ℕ → ℕ
leading_number bytes = digits_value 10 (take (prefix_len is_ascii_digit bytes) bytes)
