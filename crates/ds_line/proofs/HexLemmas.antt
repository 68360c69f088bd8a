-- Reading the hex of a blob byte by byte into a block.
use Rattle.std.proofs.Common.{◌≡◌, ◌≢◌, ℕ, suc, ◌+◌, ◌*◌, ◌/◌, ◌%◌, ◌<◌, ◌≤◌, true, List, [], ◌∷◌, ◌++◌, length, get_or, slice_index, take}
use Rattle.std.proofs.Common.{drop, refl, sym, ap, subst, ◌∙◌, append_assoc, arith}
use Rattle.std.proofs.Math.ListN.{set}
use Rattle.std.proofs.lemmas.Bool.{false≢true}
use Rattle.std.proofs.lemmas.List.{length-set, length-take-le}
use Rattle.hex.specs.Hex.{IsBytes, encode_with, encode_lower, lower_digits}
use Rattle.ds_names.specs.Run.{Ends, Begins}
use Rattle.ds_entry.specs.Value.{IsBlob}
use Rattle.ds_line.specs.Part.{Hex, run_of, is_hex_byte}
use Rattle.ds_line.proofs.DigitLemmas.{bytes_more, first_digit}
use Rattle.ds_line.proofs.TextLemmas.{block_more}

-- ---- two digits

-- the hex of a byte has two digits
pub too_short : (bytes : List ℕ) (b : ℕ) (rest : List ℕ) → length bytes < 2 → bytes ≡ encode_lower (b ∷ []) ++ rest → ⊥
unfolding encode_with
too_short bytes b rest short is = let len = ap length is in omega (arith, len)

-- the two bytes that a byte is written as are digits
pub pair_written : (h l b : ℕ) (r rest : List ℕ) → b < 256 → h ∷ l ∷ r ≡ encode_lower (b ∷ []) ++ rest →
    (is_hex_byte h ≡ true) × (is_hex_byte l ≡ true)
unfolding encode_with
pair_written h l b r rest lt is = (
  ap (λ (t : List ℕ). is_hex_byte (get_or t 0 0)) is ∙
      first_digit (b / 16) (omega (arith, lt)),
  ap (λ (t : List ℕ). is_hex_byte (get_or t 1 0)) is ∙ first_digit (b % 16) (omega arith),
)

-- two digits are the hex of the byte that their numbers make
pub pair_is : (h l m n : ℕ) (r : List ℕ) → m < 16 → n < 16 → slice_index lower_digits m ≡ h → slice_index lower_digits n ≡ l →
    h ∷ l ∷ r ≡ encode_lower ((m * 16 + n) ∷ []) ++ r
unfolding encode_with
pair_is h l m n r lt_m lt_n is_h is_l =
    let upper : (m * 16 + n) / 16 ≡ m = omega (arith, lt_m, lt_n) in
    let under : (m * 16 + n) % 16 ≡ n = omega (arith, lt_m, lt_n) in
    sym (ap (λ (d : ℕ). slice_index lower_digits d ∷ slice_index lower_digits ((m * 16 + n) % 16) ∷ r) upper
    ∙ ap (λ (d : ℕ). slice_index lower_digits m ∷ slice_index lower_digits d ∷ r) under
    ∙ ap (λ (x : ℕ). x ∷ slice_index lower_digits n ∷ r) is_h
    ∙ ap (λ (x : ℕ). h ∷ x ∷ r) is_l)

-- ---- byte by byte

pub encode_append : (a b : List ℕ) → encode_lower (a ++ b) ≡ encode_lower a ++ encode_lower b
unfolding encode_with
encode_append [] b = refl
encode_append (x ∷ a) b = ap (λ (t : List ℕ). slice_index lower_digits (x / 16) ∷ slice_index lower_digits (x % 16) ∷ t) (encode_append a b)

pub bytes_last : (xs : List ℕ) (b : ℕ) → IsBytes xs → b < 256 → IsBytes (xs ++ b ∷ [])
bytes_last [] b h lt = bytes_more b [] lt (λ i. omega arith)
bytes_last (x ∷ xs) b h lt = bytes_more x (xs ++ b ∷ []) (h 0) (bytes_last xs b (λ i. h (suc i)) lt)

-- The bytes begin with the hex of the first bytes of a block, and the rest comes after it.
pub record IsPaired (bytes block rest : List ℕ) (n : ℕ) : Type 0 where
  pub parts : bytes ≡ encode_lower (take n block) ++ rest
  pub each : IsBytes (take n block)
  pub whole : length block ≡ 1024

pub paired_first : (bytes block : List ℕ) → length block ≡ 1024 → IsPaired bytes block bytes 0
unfolding encode_with
paired_first bytes block whole = record { parts = refl; each = λ i. omega arith; whole = whole }

pub paired_more : (bytes block rest past : List ℕ) (n b : ℕ) → IsPaired bytes block rest n → n < 1024 →
    rest ≡ encode_lower (b ∷ []) ++ past → b < 256 → IsPaired bytes (set block n b) past (n + 1)
paired_more bytes block rest past n b begun lt is fits =
    let more = block_more block n b (omega (arith, begun.whole)) in
    let one : encode_lower (take n block ++ b ∷ []) ≡ encode_lower (take n block) ++ encode_lower (b ∷ []) =
    encode_append (take n block) (b ∷ []) in
    record {
      parts = begun.parts ∙ ap (λ (t : List ℕ). encode_lower (take n block) ++ t) is
          ∙ sym (append_assoc (encode_lower (take n block)) (encode_lower (b ∷ [])) past)
          ∙ ap (λ (t : List ℕ). t ++ past) (sym one)
          ∙ ap (λ (t : List ℕ). encode_lower t ++ past) (sym more);
      each = subst IsBytes (sym more) (bytes_last (take n block) b begun.each fits);
      whole = length-set block n b ∙ begun.whole;
    }

-- ---- the end of the run

pub paired_ends : (bytes block rest : List ℕ) (n : ℕ) → IsPaired bytes block rest n → Ends is_hex_byte rest →
    Begins (run_of Hex) bytes (encode_lower (take n block)) rest
paired_ends bytes block rest n begun ends = record { parts = begun.parts; ends = ends }

pub paired_blob : (bytes block rest : List ℕ) (n : ℕ) → IsPaired bytes block rest n → n ≤ 1024 → IsBlob (take n block)
paired_blob bytes block rest n begun le = record
    { limit = omega (arith, length-take-le n block (omega (arith, begun.whole))); each = begun.each }

-- ---- no blob

-- Where the bytes begin with the hex of some bytes, that of a blob continues after it.
goes_on : (done blob r s : List ℕ) → IsBytes done → IsBytes blob → encode_lower done ++ r ≡ encode_lower blob ++ s → Ends is_hex_byte s
    → (more : List ℕ) × (length blob ≡ length done + length more) × IsBytes more × (r ≡ encode_lower more ++ s)
unfolding encode_with
goes_on [] blob r s is_d is_b e ends = (blob, omega arith, is_b, e)
goes_on (b ∷ done) [] r s is_d is_b e ends =
    absurd (false≢true (sym (subst (Ends is_hex_byte) (sym e) ends) ∙ first_digit (b / 16) (let fits = is_d 0 in omega (arith, fits))))
goes_on (b ∷ done) (c ∷ blob) r s is_d is_b e ends =
    let more = goes_on done blob r s (λ i. is_d (suc i)) (λ i. is_b (suc i)) (ap (drop 2) e) ends in
    (more.0, omega (arith, more.1), more.2, more.3)

-- The run continues after what is read, but not with a byte's two digits.
pub paired_stops : (bytes block r : List ℕ) (n : ℕ) → IsPaired bytes block r n → ¬ Ends is_hex_byte r →
    ((b : ℕ) (rest : List ℕ) → b < 256 → r ≢ encode_lower (b ∷ []) ++ rest)
    → (blob rest : List ℕ) → IsBlob blob → ¬ Begins (run_of Hex) bytes (encode_lower blob) rest
unfolding encode_with
paired_stops bytes block r n begun goes none blob rest is begins =
    let more = goes_on (take n block) blob r rest begun.each is.each (sym begun.parts ∙ begins.parts) begins.ends in
    elim more.0 as (λ m. IsBytes m → r ≡ encode_lower m ++ rest → ⊥) [
      | [] ↦ λ each same. goes (subst (Ends is_hex_byte) (sym same) begins.ends)
      | m ∷ ms ↦ λ each same. none m (encode_lower ms ++ rest) (each 0) same
    ] more.2 more.3

-- The blob has 1024 bytes already, and the run continues.
pub paired_full : (bytes block r : List ℕ) → IsPaired bytes block r 1024 → ¬ Ends is_hex_byte r → (blob rest : List ℕ) → IsBlob blob →
    ¬ Begins (run_of Hex) bytes (encode_lower blob) rest
unfolding encode_with
paired_full bytes block r begun goes blob rest is begins =
    let more = goes_on (take 1024 block) blob r rest begun.each is.each (sym begun.parts ∙ begins.parts) begins.ends in
    let len = length-take-le 1024 block (omega (arith, begun.whole)) in
    elim more.0 as (λ m. length blob ≡ length (take 1024 block) + length m → r ≡ encode_lower m ++ rest → ⊥) [
      | [] ↦ λ long same. goes (subst (Ends is_hex_byte) (sym same) begins.ends)
      | m ∷ ms ↦ λ long same. omega (arith, long, len, is.limit)
    ] more.1 more.3
