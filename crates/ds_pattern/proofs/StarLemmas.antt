-- `.*` is a pattern, and matches each name: what the grammar reads is computed.
use Rattle.std.proofs.Common.{◌≡◌, ◌⊎◌, ℕ, zero, suc, ◌+◌, ◌-◌, ◌<◌, ◌≤◌, Bool, true, List, [], ◌∷◌, length, get_or, Option, None, Some}
use Rattle.std.proofs.Common.{is_some, if◌then◌else◌, nat_lt, lt-ltb, refl, ◌∙◌, inl, inr, codes, arith}
use Rattle.std.specs.Prelude.{slice_get}
use Rattle.std.specs.Option.{option_or}
use Rattle.std.specs.Char.{len_utf8}
use Rattle.std.proofs.lemmas.Bool.{and_parts}
use Rattle.std.proofs.lemmas.Bool.Decides.{nat_tests}
use Rattle.std.proofs.lemmas.Option.{slice_get_cases, slice_get_past}
use Rattle.std.proofs.lemmas.Str.{len_utf8_ascii}
use Rattle.regex_class.specs.Ranges.{Range, in_ranges}
use Rattle.regex_hir.specs.Re.{Re, Rest, empty, byte_in, char_in, look, cat, alt, plus, rounds, more_rounds, attempt, accept}
use Rattle.regex_hir.specs.Find.{find_str, first_from}
use Rattle.regex_hir.specs.Looks.{holds, holds_between}
use Rattle.regex_hir.specs.Text.{char_at}
use Rattle.regex_hir.specs.declared.look.Look.TheVariants as look_at
use Rattle.regex_hir.proofs.TextLemmas.{byte_before-zero, char_at_ascii}
use Rattle.regex_syntax.specs.Grammar.{read}
use Rattle.regex_syntax.specs.Sets.{members, negate}
use Rattle.regex_syntax.specs.Reading.{◌∈◌}
use Rattle.regex_syntax.specs.Verdict.{default_config}
use Rattle.regex_syntax.proofs.SetLemmas.{in_ranges-members}
use Rattle.regex_syntax.proofs.Written.{grammar, is_some-option_map}
use Rattle.ds_names.specs.Name.{IsName}
use Rattle.ds_pattern.specs.Under.{anchored, is_printable, is_printable_byte, is_read_as, is_regex, matches_whole}
use Rattle.ds_pattern.specs.Patterns.{is_pattern}
use Rattle.ds_pattern.proofs.PrintableLemmas.{ascii_byte, ascii_of_printable, printable_of_name}
use Rattle.ds_pattern.proofs.RegexLemmas.{boundary_of_ascii}

-- `.*` is a pattern.
pub dot_star_accepted : is_pattern (codes ".*") ≡ true
unfolding is_pattern is_regex grammar read
dot_star_accepted = refl

-- the characters that `.` matches
dots : List Range
dots = members (negate default_config (λ c. c ∈ "\n"))

-- What the grammar reads: `(?:.*)`, `$`, both after `^`, and the whole pattern, which has one branch.
abbrev inside : Re
inside = alt (cat (alt (plus true (char_in dots)) empty) empty) (byte_in [])

abbrev then_end : Re
then_end = cat (look look_at.End) empty

abbrev from_start : Re
from_start = cat (look look_at.Start) (cat inside then_end)

abbrev dot_star : Re
dot_star = alt from_start (byte_in [])

read_as_dot_star : (test : Re → Bool) → is_read_as (read default_config (anchored (codes ".*"))) (λ re. test re.value) ≡ test dot_star
unfolding grammar read dots
read_as_dot_star test = refl

first_way : {T : Type 0} (o p : Option T) → is_some o ≡ true → is_some (option_or o p) ≡ true
first_way None p h = absurd cc
first_way (Some x) p h = refl

byte_at : (bytes : List ℕ) (i b : ℕ) → is_printable bytes ≡ true → slice_get bytes i ≡ Some b → is_printable_byte b ≡ true
byte_at [] i b h here = absurd cc
byte_at (x ∷ bytes) zero b h here =
    let same : x ≡ b = cc in
    rw same at (and_parts (is_printable_byte x) (is_printable bytes) h).0
byte_at (x ∷ bytes) (suc i) b h here = byte_at bytes i b (and_parts (is_printable_byte x) (is_printable bytes) h).1 here

dot_taken : (b : ℕ) → is_printable_byte b ≡ true → in_ranges dots b ≡ true
unfolding dots negate
dot_taken b h = rw in_ranges-members (grind (arith, nat_tests))

read_dot : (name : List ℕ) (k : Rest) (i b : ℕ) → char_at name i ≡ Some b → in_ranges dots b ≡ true → len_utf8 b ≡ 1 →
    is_some (k (i + 1)) ≡ true → is_some (attempt name (char_in dots) k i) ≡ true
unfolding attempt
read_dot name k i b char member one next = rw (char, member, one) next

-- `.` matches each character of a name.
one_dot : (name : List ℕ) (k : Rest) (i : ℕ) → is_printable name ≡ true → i < length name → is_some (k (i + 1)) ≡ true →
    is_some (attempt name (char_in dots) k i) ≡ true
one_dot name k i printable inside next = at (slice_get_cases name i).1 where
  at : (((x : ℕ) × (i < length name) × (slice_get name i ≡ Some x) × (get_or name i x ≡ x)) ⊎
      ((length name ≤ i) × (slice_get name i ≡ None))) → is_some (attempt name (char_in dots) k i) ≡ true
  at (inl h) =
      let byte = byte_at name i h.0 printable h.2 in
      let small = ascii_byte h.0 byte in
      read_dot name k i h.0 (char_at_ascii name i h.0 h.2 small) (dot_taken h.0 byte) (len_utf8_ascii h.0 small) next
  at (inr h) = absurd (omega (arith, h.0))

-- From each place of a name, `.*` goes on to its end.
more_dots : (name : List ℕ) (k : Rest) → is_printable name ≡ true → is_some (k (length name)) ≡ true → (n i : ℕ) → i + n ≡ length name →
    is_some (rounds true (attempt name (char_in dots)) k n i) ≡ true
unfolding rounds
more_dots name k printable last zero i here = let end : i ≡ length name = omega arith in rw end last
more_dots name k printable last (suc n) i here =
    first_way _ (k i) (one_dot name (λ l. if nat_lt i l then rounds true (attempt name (char_in dots)) k n l else None) i printable
    (omega arith)
    (rw (lt-ltb i (i + 1) (omega arith)) (more_dots name k printable last n (i + 1) (omega arith))))

all_dots : (name : List ℕ) (k : Rest) → is_printable name ≡ true → 0 < length name → is_some (k (length name)) ≡ true →
    is_some (attempt name (plus true (char_in dots)) k 0) ≡ true
unfolding attempt
all_dots name k printable some last =
    one_dot name (λ j. if nat_lt 0 j then more_rounds name true (attempt name (char_in dots)) k j else k j) 0 printable some
    (more_dots name k printable last (length name - 1) 1 (omega arith))

starts : (name : List ℕ) → holds look_at.Start name 0 ≡ true
unfolding holds holds_between
starts name = rw (byte_before-zero name) refl

ends : (name : List ℕ) → holds look_at.End name (length name) ≡ true
unfolding holds holds_between
ends name = rw (slice_get_past name (length name) (omega arith)) refl

matched : (name : List ℕ) → is_printable name ≡ true → 0 < length name → is_some (attempt name dot_star accept 0) ≡ true
unfolding attempt
matched name printable some =
    let last : is_some (attempt name then_end accept (length name)) ≡ true = rw (ends name) refl in
    let middle : is_some (attempt name inside (attempt name then_end accept) 0) ≡ true =
    first_way _ _ (first_way _ _ (all_dots name (attempt name then_end accept) printable some last)) in
    let whole : is_some (attempt name from_start accept 0) ≡ true = rw (starts name) middle in
    first_way _ _ whole

at_start : (f : Rest) (n : ℕ) → 0 < n → is_some (f 0) ≡ true → is_some (first_from f n 0) ≡ true
unfolding first_from
at_start f zero some h = absurd (omega arith)
at_start f (suc n) some h = first_way _ _ (is_some-option_map _ (f 0) ∙ h)

matches_name : (name : List ℕ) → IsName name → matches_whole (codes ".*") name ≡ true
unfolding matches_whole find_str
matches_name name is_name =
    let printable = printable_of_name name is_name in
    read_as_dot_star (λ re. is_some (find_str re name 0)) ∙
    at_start _ _ (omega arith) (rw (boundary_of_ascii name 0 (ascii_of_printable name printable)) (matched name printable is_name.some))

-- `.*` matches each name.
pub dot_star_matches : (p name : List ℕ) → p ≡ codes ".*" → IsName name → matches_whole p name ≡ true
dot_star_matches p name same is_name = rw same (matches_name name is_name)
