-- Bytes begin with one part of a class at most: the class says where it ends.
use Rattle.std.proofs.Common.{◌≡◌, ℕ, ◌^◌, ◌<◌, Bool, true, List, [], ◌∷◌, ◌++◌, length, take, drop, refl, sym, ap, subst, ◌∙◌}
use Rattle.std.specs.List.{list_all, prefix_len}
use Rattle.std.specs.Char.{is_ascii_digit, is_ascii_alphanumeric}
use Rattle.std.specs.Fmt.{decimal}
use Rattle.std.proofs.lemmas.List.{take_at, drop_at, take-append-drop}
use Rattle.ds_names.specs.Name.{is_name_byte}
use Rattle.ds_names.specs.Endpoint.{EndpointRecord, IsEndpoint, endpoint_text}
use Rattle.ds_names.specs.Run.{Ends, Begins}
use Rattle.ds_names.proofs.DecimalLemmas.{run_is, run_parts, decimal_one, endpoint_one}
use Rattle.ds_line.specs.Part.{Class, Byte, Name, Word, Number, Endpoint, Quoted, Hex, run_of, is_hex_byte}
use Rattle.ds_line.specs.Spelling.{quoted}
use Rattle.ds_line.proofs.QuoteLemmas.{quoted_one}

-- the texts that a part of a class may have
abbrev pub IsText : Class → List ℕ → Type 0
IsText Byte t = length t ≡ 1
IsText Name t = list_all is_name_byte t ≡ true
IsText Word t = list_all is_ascii_alphanumeric t ≡ true
IsText Number t = (n : ℕ) × (n < 2 ^ 64) × (t ≡ decimal n)
IsText Endpoint t = (e : EndpointRecord) × IsEndpoint e × (t ≡ endpoint_text e)
IsText Quoted t = (text : List ℕ) × (t ≡ quoted text)
IsText Hex t = list_all is_hex_byte t ≡ true

same_front : (t u r s : List ℕ) → length t ≡ length u → t ++ r ≡ u ++ s → (t ≡ u) × (r ≡ s)
same_front t u r s len same = (
  sym (take_at t r (length u) len) ∙ ap (take (length u)) same ∙ take_at u s (length u) refl,
  sym (drop_at t r (length u) len) ∙
      ap (drop (length u)) same ∙ drop_at u s (length u) refl,
)

-- Two runs at one front are equal.
run_one : (run : ℕ → Bool) (bytes t u r s : List ℕ) → list_all run t ≡ true → list_all run u ≡ true → Begins run bytes t r →
    Begins run bytes u s → (t ≡ u) × (r ≡ s)
run_one run bytes t u r s all_t all_u begins_t begins_u =
    let len_t : prefix_len run bytes ≡ length t = ap (prefix_len run) begins_t.parts ∙ run_is run t r all_t begins_t.ends in
    let len_u : prefix_len run bytes ≡ length u = ap (prefix_len run) begins_u.parts ∙ run_is run u s all_u begins_u.ends in
    same_front t u r s (sym len_t ∙ len_u) (sym begins_t.parts ∙ begins_u.parts)

-- Two parts of a class at one front are equal.
pub part_one : (class : Class) (bytes t u r s : List ℕ) → IsText class t → IsText class u → Begins (run_of class) bytes t r →
    Begins (run_of class) bytes u s → (t ≡ u) × (r ≡ s)
part_one Byte bytes t u r s is_t is_u begins_t begins_u = same_front t u r s (is_t ∙ sym is_u) (sym begins_t.parts ∙ begins_u.parts)
part_one Name bytes t u r s is_t is_u begins_t begins_u = run_one is_name_byte bytes t u r s is_t is_u begins_t begins_u
part_one Word bytes t u r s is_t is_u begins_t begins_u = run_one is_ascii_alphanumeric bytes t u r s is_t is_u begins_t begins_u
part_one Number bytes t u r s is_t is_u begins_t begins_u =
    let one = decimal_one bytes is_t.0 is_u.0 r s is_t.1 is_u.1 (subst (λ (x : List ℕ). Begins is_ascii_digit bytes x r) is_t.2 begins_t)
    (subst (λ (x : List ℕ). Begins is_ascii_digit bytes x s) is_u.2 begins_u) in
    (is_t.2 ∙ ap decimal one.0 ∙ sym is_u.2, one.1)
part_one Endpoint bytes t u r s is_t is_u begins_t begins_u =
    let one = endpoint_one bytes is_t.0 is_u.0 r s is_t.1 is_u.1 (subst (λ (x : List ℕ). Begins is_ascii_digit bytes x r) is_t.2 begins_t)
    (subst (λ (x : List ℕ). Begins is_ascii_digit bytes x s) is_u.2 begins_u) in
    (is_t.2 ∙ ap endpoint_text one.0 ∙ sym is_u.2, one.1)
part_one Quoted bytes t u r s is_t is_u begins_t begins_u =
    let one = quoted_one is_t.0 is_u.0 r s (ap (λ (x : List ℕ). x ++ r) (sym is_t.1) ∙ sym begins_t.parts ∙ begins_u.parts ∙
    ap (λ (x : List ℕ). x ++ s) is_u.1) in
    (is_t.1 ∙ ap quoted one.0 ∙ sym is_u.1, one.1)
part_one Hex bytes t u r s is_t is_u begins_t begins_u = run_one is_hex_byte bytes t u r s is_t is_u begins_t begins_u

-- The bytes begin with the counted run.
pub run_begins : (run : ℕ → Bool) (bytes front rest : List ℕ) → front ≡ take (prefix_len run bytes) bytes →
    rest ≡ drop (prefix_len run bytes) bytes → Begins run bytes front rest
run_begins run bytes front rest is_front is_rest =
    record
    { parts = rw (is_front, is_rest) (sym (take-append-drop (prefix_len run bytes) bytes)); ends = rw is_rest (run_parts run bytes).1 }

-- Anything may follow a single byte.
pub byte_ends : (bytes : List ℕ) → Ends (run_of Byte) bytes
byte_ends [] = tt
byte_ends (b ∷ bytes) = refl

-- A byte at the front is a part there.
pub byte_begins : (b : ℕ) (bytes rest : List ℕ) → bytes ≡ b ∷ rest → Begins (run_of Byte) bytes (b ∷ []) rest
byte_begins b bytes rest is = record { parts = is; ends = byte_ends rest }
