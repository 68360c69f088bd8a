-- Masks of subscriptions, in which bit k is subscription k.
use Rattle.std.specs.Prelude.{◌≡◌, ℕ, ◌+◌, ◌-◌, ◌*◌, ◌==◌, Bool, false, ◌||◌, cond, List, [], ◌∷◌, ◌++◌, length, replicate, map}
use Rattle.std.specs.Int.{bit_at}
use Rattle.std.specs.List.{range_with_len}

-- The number with these bits, lowest first.
abbrev pub mask : List Bool → ℕ
mask [] = 0
mask (bit ∷ bits) = cond bit 1 0 + 2 * mask bits

-- Whether the bit at the place is set.
abbrev pub has_bit : ℕ → ℕ → Bool
has_bit n place = bit_at n place == 1

-- The flags of the 128 places of a mask.
unfoldable pub flags : ℕ → List Bool
flags n = map (has_bit n) (range_with_len 0 128)

-- The union of two lists of flags.
abbrev pub either : List Bool → List Bool → List Bool
either (a ∷ these) (b ∷ those) = (a || b) ∷ either these those
either _ _ = []

-- The flags of fewer places, padded with false to all 128.
abbrev pub padded : List Bool → List Bool
padded some = some ++ replicate (128 - length some) false

-- A law: padding doesn't change the number.
abbrev pub PaddingKeepsNumber : Type 0
PaddingKeepsNumber = (some : List Bool) → mask (padded some) ≡ mask some
