-- Runs, and the decimals among the runs of digits.
use Rattle.std.proofs.Common.{inl, inr, ◌≡◌, ℕ, suc, ◌+◌, ◌-◌, ◌*◌, ◌^◌, ◌<◌, ◌≤◌, Bool, true, false, cond, List, [], ◌∷◌, ◌++◌, length}
use Rattle.std.proofs.Common.{get_or, take, drop, append_assoc, append-nil, refl, sym, ap, ◌∙◌, arith, rules}
use Rattle.std.specs.List.{prefix_len, list_all}
use Rattle.std.specs.Char.{is_ascii_digit, digit_value}
use Rattle.std.specs.Fmt.{decimal}
use Rattle.std.specs.Str.Parse.{digits_value}
use Rattle.std.proofs.lemmas.Bool.{cases_lt, and_parts}
use Rattle.std.proofs.Math.Nat.{pow-le-pow_right}
use Rattle.std.proofs.lemmas.Grind.{pow_more}
use Rattle.std.proofs.lemmas.Bool.Decides.{nat_tests}
use Rattle.std.proofs.lemmas.List.{take_at, take-append-drop, append_cancel_left, get_or-take, length-take}
use Rattle.std.proofs.lemmas.List.Folds.{length-prefix_len}
use Rattle.std.proofs.lemmas.List.Sums.{AllPass-from_list_all, prefix_len-drop_yes}
use Rattle.std.proofs.lemmas.Str.Parse.{IsNumeralModel, numerals_by_value, digits_value-take-le}
use Rattle.std.proofs.lemmas.Int.Digits.{digits_value_more}
use Rattle.std.proofs.lemmas.Fmt.{digits_decimal, digits_value-decimal, decimal-digits_value, decimal_nonempty, first_decimal}
use Rattle.std.proofs.lemmas.Fmt.{decimal_digit, decimal_injective}
use Rattle.ds_names.specs.Run.{Ends, Begins}
use Rattle.ds_names.specs.Endpoint.{EndpointRecord, IsEndpoint, endpoint_text}

pub own : IsNumeralModel (λ ds. list_all is_ascii_digit ds ≡ true) (digits_value 10)
own = numerals_by_value _ (search rules)

-- a text of such bytes that ends where the run ends is the run
pub run_is : (run : ℕ → Bool) (text rest : List ℕ) → list_all run text ≡ true → Ends run rest → prefix_len run (text ++ rest) ≡ length text
run_is run [] [] h e = refl
run_is run [] (b ∷ rest) h e = rw e refl
run_is run (b ∷ text) rest h e =
    let parts = and_parts (run b) (list_all run text) h in
    rw (parts.0, run_is run text rest parts.1 e) (omega arith)

step : (run : ℕ → Bool) (b : ℕ) (bs : List ℕ) (v : Bool) → run b ≡ v
    → list_all run (take (prefix_len run bs) bs) ≡ true → Ends run (drop (prefix_len run bs) bs)
    → (list_all run (take (cond v (1 + prefix_len run bs) 0) (b ∷ bs)) ≡ true) × Ends run (drop (cond v (1 + prefix_len run bs) 0) (b ∷ bs))
step run b bs true is h e =
    let n : 1 + prefix_len run bs ≡ suc (prefix_len run bs) = omega arith in
    rw (n, is, h) (refl, e)
step run b bs false is h e = (refl, is)

-- The run at the front, and the rest after it.
pub run_parts : (run : ℕ → Bool) (bs : List ℕ) →
    (list_all run (take (prefix_len run bs) bs) ≡ true) × Ends run (drop (prefix_len run bs) bs)
run_parts run [] = (refl, tt)
run_parts run (b ∷ bs) =
    let more = run_parts run bs in
    step run b bs (run b) refl more.0 more.1

-- a byte that is a digit, and its value
digit_at : (c : ℕ) → is_ascii_digit c ≡ true → (48 ≤ c) × (c < 58) × (digit_value c ≡ c - 48)
digit_at c h =
    let low : 48 ≤ c = grind (arith, nat_tests) in
    let high : c < 58 = grind (arith, nat_tests) in
    (low, high, grind (arith, nat_tests))

-- digits so far, and one more
pub value_more : (ds : List ℕ) (i : ℕ) → i < length ds → list_all is_ascii_digit ds ≡ true →
    (48 ≤ get_or ds i 0) × (get_or ds i 0 < 58) ×
    (digits_value 10 (take (i + 1) ds) ≡ digits_value 10 (take i ds) * 10 + (get_or ds i 0 - 48))
value_more ds i lt h =
    let digit = digit_at (get_or ds i 0) (AllPass-from_list_all is_ascii_digit ds h i 0 lt) in
    (digit.0, digit.1, digits_value_more 10 ds i lt ∙ ap (λ (d : ℕ). digits_value 10 (take i ds) * 10 + d) digit.2)

-- The first `i` of the leading digits were read, and the next byte is a digit too.
pub record GoesOn (bytes : List ℕ) (i : ℕ) : Type 0 where
  pub digits : list_all is_ascii_digit (take (prefix_len is_ascii_digit bytes) bytes) ≡ true
  pub within : i < length (take (prefix_len is_ascii_digit bytes) bytes)
  pub byte : get_or (take (prefix_len is_ascii_digit bytes) bytes) i 0 ≡ get_or bytes i 0
  pub run : i + 1 + prefix_len is_ascii_digit (drop (i + 1) bytes) ≡ prefix_len is_ascii_digit bytes

-- The digits continue where the next byte is a digit.
pub goes_on : (bytes : List ℕ) (i : ℕ) → i < length bytes →
    i + prefix_len is_ascii_digit (drop i bytes) ≡ prefix_len is_ascii_digit bytes → is_ascii_digit (get_or bytes i 0) ≡ true →
    GoesOn bytes i
goes_on bytes i lt run is =
    let more : prefix_len is_ascii_digit (drop i bytes) ≡ 1 + prefix_len is_ascii_digit (drop (i + 1) bytes) =
    prefix_len-drop_yes is_ascii_digit bytes i 0 lt is in
    let len : length (take (prefix_len is_ascii_digit bytes) bytes) ≡ prefix_len is_ascii_digit bytes =
    length-prefix_len is_ascii_digit bytes in
    let inside : i < prefix_len is_ascii_digit bytes = omega (arith, more, run) in
    record {
      digits = (run_parts is_ascii_digit bytes).0;
      within = omega (arith, len, inside);
      byte = get_or-take (prefix_len is_ascii_digit bytes) bytes i 0 inside;
      run = omega (arith, more, run);
    }

-- digits whose front is too large are too large
pub too_large : (ds : List ℕ) (i : ℕ) → i < length ds → list_all is_ascii_digit ds ≡ true →
    2 ^ 64 ≤ digits_value 10 (take i ds) * 10 + (get_or ds i 0 - 48) → ¬ (digits_value 10 ds < 2 ^ 64)
too_large ds i lt h big = λ small.
    let le : digits_value 10 (take (i + 1) ds) ≤ digits_value 10 ds = digits_value-take-le 10 ds (i + 1) (omega arith) in
    let more : digits_value 10 (take (i + 1) ds) ≡ digits_value 10 (take i ds) * 10 + (get_or ds i 0 - 48) = (value_more ds i lt h).2 in
    omega arith

-- An index in the first bytes is an index in all of them.
pub front_at : (n : ℕ) (bytes : List ℕ) (i : ℕ) → i < length (take n bytes) →
    (i < n) × (i < length bytes) × (get_or (take n bytes) i 0 ≡ get_or bytes i 0)
front_at n bytes i lt =
    let len = length-take n bytes in
    let first : i < n = omega arith in
    (first, omega arith, get_or-take n bytes i 0 first)

-- A digit after fewer than 19 others doesn't overflow.
pub short_more : (number at digit : ℕ) → number < 10 ^ at → at < 19 → digit < 10 →
    (number * 10 + digit < 10 ^ (at + 1)) × (number * 10 + digit < 2 ^ 64)
short_more number at digit lt short small =
    let more = pow_more 10 at in
    let some : 0 < 10 = omega arith in
    let within : at ≤ 18 = omega arith in
    let most : 10 ^ at ≤ 10 ^ 18 = pow-le-pow_right some within in
    (omega arith, omega arith)

-- what is at the front, if a decimal is
pub decimal_front : (bytes : List ℕ) (n : ℕ) (rest : List ℕ) → n < 2 ^ 64 → Begins is_ascii_digit bytes (decimal n) rest →
    take (prefix_len is_ascii_digit bytes) bytes ≡ decimal n
decimal_front bytes n rest lt h =
    let digits = digits_decimal own n lt in
    let len : prefix_len is_ascii_digit bytes ≡ length (decimal n) =
    ap (prefix_len is_ascii_digit) h.parts ∙ run_is is_ascii_digit (decimal n) rest digits h.ends in
    ap (λ (k : ℕ). take k bytes) len ∙ ap (take (length (decimal n))) h.parts ∙ take_at (decimal n) rest (length (decimal n)) refl

-- The digits of a number are its decimal.
pub is_decimal : (ds : List ℕ) → list_all is_ascii_digit ds ≡ true → 0 < length ds → (get_or ds 0 0 ≡ 48 → length ds ≡ 1) →
    digits_value 10 ds < 2 ^ 64 → decimal (digits_value 10 ds) ≡ ds
is_decimal ds h some lead lt = decimal-digits_value own ds h some lead lt

-- no decimal is empty or has a leading zero
pub decimal_lead : (n : ℕ) → n < 2 ^ 64 → (0 < length (decimal n)) × (get_or (decimal n) 0 0 ≡ 48 → length (decimal n) ≡ 1)
decimal_lead n lt = (
  decimal_nonempty n lt,
  λ h. elim (cases_lt 0 n) [
    | inl more ↦ absurd (omega (arith, first_decimal n more lt))
    | inr none ↦
        (let one : n < 10 = omega arith in ap length (decimal_digit n one))
  ],
)

-- Where a decimal is at the front, the leading digits are one.
pub none_there : (bytes ds : List ℕ) (n : ℕ) (rest : List ℕ) → ds ≡ take (prefix_len is_ascii_digit bytes) bytes → n < 2 ^ 64 →
    Begins is_ascii_digit bytes (decimal n) rest
    → (0 < length ds) × (get_or ds 0 0 ≡ 48 → length ds ≡ 1) × (digits_value 10 ds < 2 ^ 64)
none_there bytes ds n rest is lt h =
    let lead = decimal_lead n lt in
    let value : digits_value 10 (decimal n) ≡ n = digits_value-decimal own n lt in
    rw (is, decimal_front bytes n rest lt h) (lead.0, lead.1, omega arith)

-- Leading digits that are a decimal are the one at the front.
pub there : (bytes ds : List ℕ) (n : ℕ) (rest : List ℕ) → ds ≡ take (prefix_len is_ascii_digit bytes) bytes →
    rest ≡ drop (prefix_len is_ascii_digit bytes) bytes
    → 0 < length ds → (get_or ds 0 0 ≡ 48 → length ds ≡ 1) → digits_value 10 ds < 2 ^ 64 → n ≡ digits_value 10 ds →
    Begins is_ascii_digit bytes (decimal n) rest
there bytes ds n rest is past some lead lt value =
    let parts = run_parts is_ascii_digit bytes in
    let digits : list_all is_ascii_digit ds ≡ true = rw is parts.0 in
    let same : decimal n ≡ ds = ap decimal value ∙ is_decimal ds digits some lead lt in
    let whole : bytes ≡ ds ++ rest = rw (is, past) (sym (take-append-drop (prefix_len is_ascii_digit bytes) bytes)) in
    record { parts = whole ∙ ap (λ (t : List ℕ). t ++ rest) (sym same); ends = rw past parts.1 }

-- Two decimals at the front are equal.
pub decimal_one : (bytes : List ℕ) (m n : ℕ) (r s : List ℕ) → m < 2 ^ 64 → n < 2 ^ 64 → Begins is_ascii_digit bytes (decimal m) r →
    Begins is_ascii_digit bytes (decimal n) s → (m ≡ n) × (r ≡ s)
decimal_one bytes m n r s lm ln hm hn =
    let same : decimal m ≡ decimal n = sym (decimal_front bytes m r lm hm) ∙ decimal_front bytes n s ln hn in
    let whole : decimal n ++ r ≡ decimal n ++ s = ap (λ (t : List ℕ). t ++ r) (sym same) ∙ sym hm.parts ∙ hn.parts in
    (decimal_injective m n lm ln same, append_cancel_left (decimal n) r s whole)

-- the parts of an endpoint's text at the front
pub endpoint_parts : (bytes : List ℕ) (a : EndpointRecord) (rest : List ℕ) → Begins is_ascii_digit bytes (endpoint_text a) rest
    → Begins is_ascii_digit bytes (decimal a.generation) (47 ∷ (decimal a.slot ++ rest)) ×
    Begins is_ascii_digit (decimal a.slot ++ rest) (decimal a.slot) rest
endpoint_parts bytes a rest h = (
  record { parts = h.parts ∙ append_assoc (decimal a.generation) (47 ∷ decimal a.slot) rest; ends = refl },
  record
      { parts = refl; ends = h.ends },
)

-- Two endpoints at the front are equal.
pub endpoint_one : (bytes : List ℕ) (a b : EndpointRecord) (r s : List ℕ) → IsEndpoint a → IsEndpoint b →
    Begins is_ascii_digit bytes (endpoint_text a) r → Begins is_ascii_digit bytes (endpoint_text b) s → (a ≡ b) × (r ≡ s)
endpoint_one bytes a b r s va vb ha hb =
    let pa = endpoint_parts bytes a r ha in
    let pb = endpoint_parts bytes b s hb in
    let first = decimal_one bytes a.generation b.generation (47 ∷ (decimal a.slot ++ r)) (47 ∷ (decimal b.slot ++ s))
    (omega (arith, va.generation)) (omega (arith, vb.generation)) pa.0 pb.0 in
    let past : decimal a.slot ++ r ≡ decimal b.slot ++ s = ap (drop 1) first.1 in
    let second = decimal_one (decimal b.slot ++ s) a.slot b.slot r s (omega (arith, va.slot)) (omega (arith, vb.slot))
    (record { parts = sym past; ends = ha.ends }) pb.1 in (
      ap (λ (p : ℕ × ℕ). record { generation = p.0; slot = p.1 })
          (let e : (a.generation, a.slot) ≡ (b.generation, b.slot) = rw (first.0, second.0) refl in e),
      second.1,
    )

-- Two endpoints with one text are equal.
pub endpoint_text_one : (a b : EndpointRecord) → IsEndpoint a → IsEndpoint b → endpoint_text a ≡ endpoint_text b → a ≡ b
endpoint_text_one a b va vb same =
    let begins : Begins is_ascii_digit (endpoint_text a) (endpoint_text a) [] =
    record { parts = sym (append-nil (endpoint_text a)); ends = tt } in
    let other : Begins is_ascii_digit (endpoint_text a) (endpoint_text b) [] =
    record { parts = same ∙ sym (append-nil (endpoint_text b)); ends = tt } in
    (endpoint_one (endpoint_text a) a b [] [] va vb begins other).0

-- What follows the generation that was read.
pub endpoint_after : (bytes : List ℕ) (n : ℕ) (after : List ℕ) (a : EndpointRecord) (rest : List ℕ) → n ≤ 2097151 →
    Begins is_ascii_digit bytes (decimal n) after → IsEndpoint a → Begins is_ascii_digit bytes (endpoint_text a) rest
    → (n ≡ a.generation) × (after ≡ 47 ∷ (decimal a.slot ++ rest))
endpoint_after bytes n after a rest lt h va ha =
    decimal_one bytes n a.generation after (47 ∷ (decimal a.slot ++ rest)) (omega arith) (omega (arith, va.generation)) h
    (endpoint_parts bytes a rest ha).0
