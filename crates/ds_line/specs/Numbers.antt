-- The numbers of hex digits.
use Rattle.std.specs.Prelude.{◌≡◌, ℕ, ◌<◌, List, slice_index}
use Rattle.hex.specs.Hex.{lower_digits}

-- Whether each of the first `count` numbers is below 16, and the byte at its index is its digit.
abbrev pub AreNumbersOf : List ℕ → ℕ → List ℕ → Type 0
AreNumbersOf digits count numbers =
    (i : ℕ) → i < count → (slice_index numbers i < 16) × (slice_index lower_digits (slice_index numbers i) ≡ slice_index digits i)
