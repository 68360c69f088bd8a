-- Runs of hex digits, and the bytes that they write.
use Rattle.std.proofs.Common.{◌≡◌, ℕ, zero, suc, ◌/◌, ◌%◌, ◌<◌, Bool, true, ◌&&◌, inl, inr, List, [], ◌∷◌, slice_index, Result, refl, sym}
use Rattle.std.proofs.Common.{ap, ◌∙◌, arith}
use Rattle.std.specs.List.{list_all}
use Rattle.std.specs.Result.{result_unwrap_or}
use Rattle.std.proofs.lemmas.Bool.{and_parts, cases_lt, and_from}
use Rattle.hex.specs.Hex.{IsBytes, decode_of, encode_with, encode_lower, lower_digits}
use Rattle.hex.proofs.HexLemmas.{decode_of-encode_lower}
use Rattle.ds_line.specs.Part.{is_hex_byte}

-- one byte more at the front
pub bytes_more : (b : ℕ) (rest : List ℕ) → b < 256 → IsBytes rest → IsBytes (b ∷ rest)
bytes_more b rest h hs zero = h
bytes_more b rest h hs (suc i) = hs i

-- ---- what bytes are written as

abbrev is_written : ℕ → Bool
is_written d = is_hex_byte (slice_index lower_digits d)

abbrev all_written : ℕ → Bool
all_written zero = true
all_written (suc n) = is_written n && all_written n

written_at : (n d : ℕ) → all_written n ≡ true → d < n → is_written d ≡ true
written_at zero d h lt = absurd (omega arith)
written_at (suc n) d h lt =
    let parts = and_parts (is_written n) (all_written n) h in
    elim (cases_lt d n) [
      | inl below ↦ written_at n d parts.1 below
      | inr top ↦ (let e : d ≡ n = omega arith in rw e parts.0)
    ]

-- the digit of a number is one
pub first_digit : (d : ℕ) → d < 16 → is_hex_byte (slice_index lower_digits d) ≡ true
first_digit d lt = written_at 16 d refl lt

-- the hex of bytes is a run of digits
pub hex_run : (bytes : List ℕ) → IsBytes bytes → list_all is_hex_byte (encode_lower bytes) ≡ true
unfolding encode_with
hex_run [] h = refl
hex_run (b ∷ rest) h =
    let fits : b < 256 = h 0 in
    and_from (is_written (b / 16)) (list_all is_hex_byte (slice_index lower_digits (b % 16) ∷ encode_lower rest))
    (written_at 16 (b / 16) refl (omega (arith, fits)))
    (and_from (is_written (b % 16)) (list_all is_hex_byte (encode_lower rest)) (written_at 16 (b % 16) refl (omega arith))
    (hex_run rest (λ i. h (suc i))))

-- Two blobs with the same hex are equal.
pub hex_one : (a b : List ℕ) → IsBytes a → IsBytes b → encode_lower a ≡ encode_lower b → a ≡ b
hex_one a b is_a is_b e =
    ap (λ (r : Result (List ℕ) _). result_unwrap_or r [])
    (sym (decode_of-encode_lower a is_a) ∙ ap decode_of e ∙ decode_of-encode_lower b is_b)
