-- Numbers that bound every store, whatever its own limits are.
use Rattle.std.specs.Prelude.{ℕ, ◌^◌}

-- The most items of a Merge, a Check, a Since or a Page.
abbrev pub most_items : ℕ
most_items = 256

-- The most floors that a store holds.
abbrev pub most_floors : ℕ
most_floors = 64

-- The most bytes of a pattern.
abbrev pub longest_pattern : ℕ
longest_pattern = 128

-- The greatest sequence number. No caller uses it.
abbrev pub last_seq : ℕ
last_seq = 4294967295

-- The greatest position, and the greatest stamp.
abbrev pub last_place : ℕ
last_place = 2 ^ 62
