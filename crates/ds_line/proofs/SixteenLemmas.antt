-- Reading the hex of a blob sixteen bytes at a time.
use Rattle.std.proofs.Common.{◌≡◌, ℕ, zero, suc, ◌+◌, ◌*◌, ◌-◌, ◌/◌, ◌%◌, ◌==◌, ◌<◌, ◌≤◌, Bool, true, ◌&&◌, inl, inr, List, [], ◌∷◌, ◌++◌}
use Rattle.std.proofs.Common.{length, get_or, slice_index, take, drop, refl, sym, ap, subst, ◌∙◌, append_assoc, arith}
use Rattle.std.proofs.Math.ListN.{set}
use Rattle.std.proofs.lemmas.Bool.{and_parts, cases_lt, eqb-true}
use Rattle.std.proofs.Math.Seq.{take-append_seam, take-append-add, take-length}
use Rattle.std.proofs.lemmas.List.{append-nil, length-set, length-append, length-drop, length-take-le, take_more, take-append-drop}
use Rattle.std.proofs.lemmas.List.{get_or-set_same, get_or-set_other}
use Rattle.hex.specs.Hex.{IsBytes, encode_with, encode_lower, lower_digits}
use Rattle.ds_line.specs.Numbers.{AreNumbersOf}
use Rattle.ds_line.proofs.DigitLemmas.{bytes_more}
use Rattle.ds_line.proofs.HexLemmas.{IsPaired, encode_append, bytes_last, pair_is}
use Rattle.ds_line.proofs.TextLemmas.{block_more}

-- ---- the numbers of digits

-- Two functions are equal below n.
abbrev same : (ℕ → ℕ) → (ℕ → ℕ) → ℕ → Bool
same f g zero = true
same f g (suc n) = (f n == g n) && same f g n

same_at : (f g : ℕ → ℕ) (n d : ℕ) → same f g n ≡ true → d < n → f d ≡ g d
same_at f g zero d h lt = absurd (omega arith)
same_at f g (suc n) d h lt =
    let parts = and_parts (f n == g n) (same f g n) h in
    elim (cases_lt d n) [
      | inl below ↦ same_at f g n d parts.1 below
      | inr top ↦ (let e : d ≡ n = omega arith in rw e (eqb-true (f n) (g n) parts.0))
    ]

-- a digit from 0 to 9 has its number
pub digit_number : (b : ℕ) → 48 ≤ b → b ≤ 57 → slice_index lower_digits (b - 48) ≡ b
digit_number b ge le = same_at (λ n. slice_index lower_digits n) (λ n. n + 48) 10 (b - 48) refl (omega (arith, ge, le)) ∙ omega (arith, ge)

-- and one from a to f
pub letter_number : (b : ℕ) → 97 ≤ b → b ≤ 102 → slice_index lower_digits (b - 97 + 10) ≡ b
letter_number b ge le = same_at (λ n. slice_index lower_digits (n + 10)) (λ n. n + 97) 6 (b - 97) refl (omega (arith, ge, le)) ∙
    omega (arith, ge)

-- the digits of numbers
pub low_digit : (n : ℕ) → n < 10 → slice_index lower_digits n ≡ 48 + n
low_digit n lt = same_at (λ n. slice_index lower_digits n) (λ n. n + 48) 10 n refl lt ∙ omega arith

high_at : (n : ℕ) → n < 6 → slice_index lower_digits (n + 10) ≡ n + 97
high_at n lt = same_at (λ n. slice_index lower_digits (n + 10)) (λ n. n + 97) 6 n refl lt

pub high_digit : (n : ℕ) → 10 ≤ n → n < 16 → slice_index lower_digits n ≡ 87 + n
high_digit n ge lt =
    let e : n - 10 + 10 ≡ n = omega (arith, ge) in
    ap (λ (m : ℕ). slice_index lower_digits m) (sym e) ∙ high_at (n - 10) (omega (arith, ge, lt)) ∙ omega (arith, ge)

-- The first n numbers are those of the digits, unless the flag says that another byte was met.
pub record IsJudged (digits numbers : List ℕ) (alone : Bool) (n : ℕ) : Type 0 where
  pub are : alone ≡ true → AreNumbersOf digits n numbers
  pub whole : length numbers ≡ 32

pub judged_first : (digits numbers : List ℕ) → length numbers ≡ 32 → IsJudged digits numbers true 0
judged_first digits numbers whole = record { are = λ _ i lt. absurd (omega (arith, lt)); whole = whole }

pub judged_more : (digits numbers : List ℕ) (alone next : Bool) (n k : ℕ) → IsJudged digits numbers alone n → n < 32 →
    (k < 16 → slice_index lower_digits k ≡ get_or digits n 0)
    → (next ≡ true → (alone ≡ true) × (k < 16)) → IsJudged digits (set numbers n k) next (n + 1)
judged_more digits numbers alone next n k begun lt is both =
    let same : get_or (set numbers n k) n 0 ≡ k = get_or-set_same numbers n k 0 (omega (arith, lt, begun.whole)) in
    let other : (i : ℕ) → i < n → get_or (set numbers n k) i 0 ≡ get_or numbers i 0 = λ i below.
    get_or-set_other numbers n i k 0 (λ e. omega (arith, e, below)) in
    let last : next ≡ true → (get_or (set numbers n k) n 0 < 16) ×
    (slice_index lower_digits (get_or (set numbers n k) n 0) ≡ get_or digits n 0) =
    λ t. (rw same (both t).1, rw same (is (both t).1)) in
    let before : next ≡ true → (i : ℕ) → i < n →
    (get_or (set numbers n k) i 0 < 16) × (slice_index lower_digits (get_or (set numbers n k) i 0) ≡ get_or digits i 0) =
    λ t i below. rw (other i below) (begun.are (both t).0 i below) in
    record {
      are = λ t i le. elim (cases_lt i n) [
        | inl below ↦ before t i below
        | inr top ↦ (let e : i ≡ n = omega (arith, le, top) in rw e (last t))
      ];
      whole = length-set numbers n k ∙ begun.whole;
    }

-- ---- sixteen bytes

-- the first bytes of a block are what the first digits write
pub record IsWritten (digits block : List ℕ) (at : ℕ) : Type 0 where
  pub front : take (2 * at) digits ≡ encode_lower (take at block)
  pub each : IsBytes (take at block)
  pub whole : length block ≡ 16

pub written_first : (digits block : List ℕ) → length block ≡ 16 → IsWritten digits block 0
unfolding encode_with
written_first digits block whole = record { front = refl; each = λ i. omega arith; whole = whole }

-- two digits more
take_two : (digits : List ℕ) (at : ℕ) → 2 * at + 1 < length digits →
    take (2 * (at + 1)) digits ≡ take (2 * at) digits ++ (get_or digits (2 * at) 0 ∷ get_or digits (2 * at + 1) 0 ∷ [])
take_two digits at lt =
    let e : 2 * (at + 1) ≡ 2 * at + 1 + 1 = omega arith in
    ap (λ (n : ℕ). take n digits) e
    ∙ take_more digits (2 * at + 1) 0 lt
    ∙ ap (λ (t : List ℕ). t ++ get_or digits (2 * at + 1) 0 ∷ []) (take_more digits (2 * at) 0 (omega (arith, lt)))
    ∙ append_assoc (take (2 * at) digits) (get_or digits (2 * at) 0 ∷ []) (get_or digits (2 * at + 1) 0 ∷ [])

pub written_more : (digits numbers block : List ℕ) (at : ℕ) → IsWritten digits block at → at < 16 → length digits ≡ 32 →
    AreNumbersOf digits 32 numbers
    → IsWritten digits (set block at (get_or numbers (2 * at) 0 * 16 + get_or numbers (2 * at + 1) 0)) (at + 1)
written_more digits numbers block at begun lt len are =
    let high = are (2 * at) (omega (arith, lt)) in
    let low = are (2 * at + 1) (omega (arith, lt)) in
    let m : ℕ = get_or numbers (2 * at) 0 in
    let n : ℕ = get_or numbers (2 * at + 1) 0 in
    let h : ℕ = get_or digits (2 * at) 0 in
    let l : ℕ = get_or digits (2 * at + 1) 0 in
    let b : ℕ = m * 16 + n in
    let more : take (at + 1) (set block at b) ≡ take at block ++ b ∷ [] = block_more block at b (omega (arith, lt, begun.whole)) in
    let two : h ∷ l ∷ [] ≡ encode_lower (b ∷ []) ++ [] = pair_is h l m n [] high.0 low.0 high.1 low.1 in
    record {
      front = take_two digits at (omega (arith, lt, len))
          ∙ ap (λ (t : List ℕ). t ++ (h ∷ l ∷ [])) begun.front
          ∙ ap (λ (t : List ℕ). encode_lower (take at block) ++ t) (two ∙ append-nil (encode_lower (b ∷ [])))
          ∙ sym (encode_append (take at block) (b ∷ []))
          ∙ ap encode_lower (sym more);
      each = subst IsBytes (sym more) (bytes_last (take at block) b begun.each (omega (arith, high.0, low.0)));
      whole = length-set block at b ∙ begun.whole;
    }

pub take_whole : (xs : List ℕ) (n : ℕ) → length xs ≡ n → take n xs ≡ xs
take_whole xs n e = ap (λ (m : ℕ). take m xs) (sym e) ∙ take-length xs

pub written_all : (digits block rest bytes : List ℕ) → IsWritten digits block 16 → length digits ≡ 32 → bytes ≡ digits ++ rest →
    bytes ≡ encode_lower block ++ rest
written_all digits block rest bytes done len is =
    is ∙ ap (λ (t : List ℕ). t ++ rest) (sym (take_whole digits 32 len) ∙ done.front ∙ ap encode_lower (take_whole block 16 done.whole))

pub written_each : (digits block : List ℕ) → IsWritten digits block 16 → IsBytes block
written_each digits block done = subst IsBytes (take_whole block 16 done.whole) done.each

-- ---- sixteen bytes after others

bytes_both : (xs ys : List ℕ) → IsBytes xs → IsBytes ys → IsBytes (xs ++ ys)
bytes_both [] ys h k = k
bytes_both (x ∷ xs) ys h k = bytes_more x (xs ++ ys) (h 0) (bytes_both xs ys (λ i. h (suc i)) k)

pub paired_sixteen : (bytes block rest past sixteen : List ℕ) (n : ℕ) → IsPaired bytes block rest n → n + length sixteen ≤ 1024 →
    rest ≡ encode_lower sixteen ++ past → IsBytes sixteen
    → IsPaired bytes (take n block ++ (sixteen ++ drop (n + length sixteen) block)) past (n + length sixteen)
paired_sixteen bytes block rest past sixteen n begun le is fits =
    let k : ℕ = n + length sixteen in
    let front : List ℕ = take n block in
    let len : length front ≡ n = length-take-le n block (omega (arith, le, begun.whole)) in
    let both : length (front ++ sixteen) ≡ k = length-append front sixteen ∙ ap (λ (m : ℕ). m + length sixteen) len in
    let joined : front ++ (sixteen ++ drop k block) ≡ (front ++ sixteen) ++ drop k block =
    sym (append_assoc front sixteen (drop k block)) in
    let more : take k (front ++ (sixteen ++ drop k block)) ≡ front ++ sixteen =
    ap (λ (t : List ℕ). take k t) joined ∙ ap (λ (m : ℕ). take m ((front ++ sixteen) ++ drop k block)) (sym both) ∙
    take-append_seam (front ++ sixteen) (drop k block) in
    record {
      parts = begun.parts ∙ ap (λ (t : List ℕ). encode_lower front ++ t) is
          ∙ sym (append_assoc (encode_lower front) (encode_lower sixteen) past)
          ∙ ap (λ (t : List ℕ). t ++ past) (sym (encode_append front sixteen))
          ∙ ap (λ (t : List ℕ). encode_lower t ++ past) (sym more);
      each = subst IsBytes (sym more) (bytes_both front sixteen begun.each fits);
      whole = ap length joined ∙ length-append (front ++ sixteen) (drop k block) ∙
          omega (arith, both, length-drop k block, begun.whole, le);
    }

-- ---- sixteen bytes written

-- the first digits are those of the first bytes
pub record IsSpelled (bytes digits : List ℕ) (at : ℕ) : Type 0 where
  pub front : take (2 * at) digits ≡ encode_lower (take at bytes)
  pub whole : length digits ≡ 32

pub spelled_first : (bytes digits : List ℕ) → length digits ≡ 32 → IsSpelled bytes digits 0
unfolding encode_with
spelled_first bytes digits whole = record { front = refl; whole = whole }

digits_one : (b : ℕ) → encode_lower (b ∷ []) ≡ slice_index lower_digits (b / 16) ∷ slice_index lower_digits (b % 16) ∷ []
unfolding encode_with
digits_one b = refl

pub spelled_more : (bytes digits : List ℕ) (at m n : ℕ) → IsSpelled bytes digits at → at < 16 → length bytes ≡ 16
    → m ≡ slice_index lower_digits (get_or bytes at 0 / 16) → n ≡ slice_index lower_digits (get_or bytes at 0 % 16)
    → IsSpelled bytes (set (set digits (2 * at) m) (2 * at + 1) n) (at + 1)
spelled_more bytes digits at m n begun lt len is_m is_n =
    let one : List ℕ = set digits (2 * at) m in
    let b : ℕ = get_or bytes at 0 in
    let long : length one ≡ 32 = length-set digits (2 * at) m ∙ begun.whole in
    let e : 2 * (at + 1) ≡ 2 * at + 1 + 1 = omega arith in
    let two : take (2 * (at + 1)) (set one (2 * at + 1) n) ≡ take (2 * at) digits ++ (m ∷ n ∷ []) =
    ap (λ (k : ℕ). take k (set one (2 * at + 1) n)) e
    ∙ block_more one (2 * at + 1) n (omega (arith, lt, long))
    ∙ ap (λ (t : List ℕ). t ++ n ∷ []) (block_more digits (2 * at) m (omega (arith, lt, begun.whole)))
    ∙ append_assoc (take (2 * at) digits) (m ∷ []) (n ∷ []) in
    let last : m ∷ n ∷ [] ≡ encode_lower (b ∷ []) =
    ap (λ (x : ℕ). x ∷ n ∷ []) is_m ∙ ap (λ (x : ℕ). slice_index lower_digits (b / 16) ∷ x ∷ []) is_n ∙ sym (digits_one b) in
    record {
      front = two
          ∙ ap (λ (t : List ℕ). t ++ (m ∷ n ∷ [])) begun.front
          ∙ ap (λ (t : List ℕ). encode_lower (take at bytes) ++ t) last
          ∙ sym (encode_append (take at bytes) (b ∷ []))
          ∙ ap encode_lower (sym (take_more bytes at 0 (omega (arith, lt, len))));
      whole = length-set one (2 * at + 1) n ∙ long;
    }

pub spelled_all : (bytes digits : List ℕ) → IsSpelled bytes digits 16 → length bytes ≡ 16 → digits ≡ encode_lower bytes
spelled_all bytes digits done len = sym (take_whole digits 32 done.whole) ∙ done.front ∙ ap encode_lower (take_whole bytes 16 len)

-- the first digits of a block are those of the first n bytes of a blob
pub record IsWrittenOut (blob block : List ℕ) (n : ℕ) : Type 0 where
  pub front : take (2 * n) block ≡ encode_lower (take n blob)
  pub within : n ≤ length blob
  pub whole : length block ≡ 2048

pub out_first : (blob block : List ℕ) → length block ≡ 2048 → IsWrittenOut blob block 0
unfolding encode_with
out_first blob block whole = record { front = refl; within = omega arith; whole = whole }

take_on : (n : ℕ) (xs : List ℕ) → n + 16 ≤ length xs → take (n + 16) xs ≡ take n xs ++ take 16 (drop n xs)
take_on n xs le =
    let len : length (take n xs) ≡ n = length-take-le n xs (omega (arith, le)) in
    ap (λ (t : List ℕ). take (n + 16) t) (sym (take-append-drop n xs))
    ∙ ap (λ (k : ℕ). take (k + 16) (take n xs ++ drop n xs)) (sym len)
    ∙ take-append-add (take n xs) (drop n xs) 16

pub encode_length : (xs : List ℕ) → length (encode_lower xs) ≡ 2 * length xs
unfolding encode_with
encode_length [] = refl
encode_length (x ∷ xs) = omega (arith, encode_length xs)

pub out_more : (blob block sixteen digits : List ℕ) (n : ℕ) → IsWrittenOut blob block n → n + 16 ≤ length blob → length blob ≤ 1024 →
    sixteen ≡ take 16 (drop n blob) → digits ≡ encode_lower sixteen
    → IsWrittenOut blob (take (2 * n) block ++ (digits ++ drop (2 * n + length digits) block)) (n + 16)
out_more blob block sixteen digits n begun le limit is spelled =
    let k : ℕ = 2 * n + length digits in
    let front : List ℕ = take (2 * n) block in
    let next : List ℕ = take 16 (drop n blob) in
    let same : digits ≡ encode_lower next = spelled ∙ ap encode_lower is in
    let count : length next ≡ 16 = length-take-le 16 (drop n blob) (omega (arith, length-drop n blob, le)) in
    let long : length digits ≡ 32 = ap length same ∙ encode_length next ∙ ap (λ (m : ℕ). 2 * m) count in
    let len : length front ≡ 2 * n = length-take-le (2 * n) block (omega (arith, le, limit, begun.whole)) in
    let both : length (front ++ digits) ≡ k = length-append front digits ∙ ap (λ (m : ℕ). m + length digits) len in
    let end : 2 * (n + 16) ≡ k = omega (arith, long) in
    let joined : front ++ (digits ++ drop k block) ≡ (front ++ digits) ++ drop k block = sym (append_assoc front digits (drop k block)) in
    record {
      front = ap (λ (m : ℕ). take m (front ++ (digits ++ drop k block))) (end ∙ sym both)
          ∙ ap (λ (t : List ℕ). take (length (front ++ digits)) t) joined
          ∙ take-append_seam (front ++ digits) (drop k block)
          ∙ ap (λ (t : List ℕ). t ++ digits) begun.front
          ∙ ap (λ (t : List ℕ). encode_lower (take n blob) ++ t) same
          ∙ sym (encode_append (take n blob) next)
          ∙ ap encode_lower (sym (take_on n blob le));
      within = le;
      whole = ap length joined ∙ length-append (front ++ digits) (drop k block) ∙
          omega (arith, both, length-drop k block, begun.whole, le, limit, long);
    }

-- The hex of a blob in two parts, after a list and between two texts.
pub out_joined : (old before after blob block digits : List ℕ) (n : ℕ) → take (2 * n) block ≡ encode_lower (take n blob) →
    digits ≡ encode_lower (drop n blob)
    → old ++ (before ++ (take (2 * n) block ++ (digits ++ (after ++ [])))) ≡ old ++ (before ++ (encode_lower blob ++ after))
out_joined old before after blob block digits n is_front is_rest =
    let one : List ℕ = encode_lower (take n blob) in
    let two : List ℕ = encode_lower (drop n blob) in
    let whole : one ++ two ≡ encode_lower blob =
    sym (encode_append (take n blob) (drop n blob)) ∙ ap encode_lower (take-append-drop n blob) in
    ap (λ (t : List ℕ). old ++ (before ++ t))
    (ap (λ (t : List ℕ). t ++ (digits ++ (after ++ []))) is_front
    ∙ ap (λ (t : List ℕ). one ++ (t ++ (after ++ []))) is_rest
    ∙ ap (λ (t : List ℕ). one ++ (two ++ t)) (append-nil after)
    ∙ sym (append_assoc one two after)
    ∙ ap (λ (t : List ℕ). t ++ after) whole)
