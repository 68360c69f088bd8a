-- At each place of a text of ASCII, an assertion about words of Unicode holds exactly if the same one about words of
-- ASCII does.
use Rattle.std.proofs.Common.{◌≡◌, ◌⊎◌, ℕ, zero, suc, ◌+◌, ◌-◌, ◌<◌, ◌≤◌, Bool, true, false, ◌&&◌, ◌||◌, not, List, length, get_or, Option}
use Rattle.std.proofs.Common.{None, Some, is_some, if◌then◌else◌, refl, ◌∙◌, inl, inr, arith}
use Rattle.std.specs.Prelude.{nat_le, ◌==◌, slice_get}
use Rattle.std.specs.Char.{len_utf8}
use Rattle.std.specs.Str.{IsAscii}
use Rattle.std.proofs.lemmas.Bool.Decides.{nat_tests}
use Rattle.std.proofs.lemmas.Option.{slice_get_cases, get_or_from_slice_get}
use Rattle.ucd_perl.specs.Perl.{is_word_byte, is_word_char}
use Rattle.ucd_perl.proofs.PerlLemmas.{is_word_char-ascii}
use Rattle.regex_hir.specs.Looks.{holds, holds_between}
use Rattle.regex_hir.specs.Text.{is_some_and, byte_before, char_at, char_before, char_of_len_before}
use Rattle.regex_hir.specs.declared.look.Look.TheVariants as look
use Rattle.regex_hir.proofs.TextLemmas.{byte_before-zero, byte_before-add-one, char_at_ascii, char_at_fits, char_at_past, char_before-zero}
use Rattle.regex_hir.proofs.TextLemmas.{char_before_ascii}
use Rattle.ds_pattern.specs.Narrow.{HoldsInAscii}

byte_below : (text : List ℕ) (i b : ℕ) → IsAscii text → slice_get text i ≡ Some b → b < 128
byte_below text i b ascii read =
    let low : get_or text i 0 < 128 = ascii i in
    rw (get_or_from_slice_get text i b 0 read) at low

-- a character of n bytes doesn't fit where it would end beyond the text
too_long : (n i size room : ℕ) → i - n + size ≤ room → room < i → (nat_le n i && (size == n)) ≡ false
too_long n i size room fits past = grind (arith, nat_tests)

dropped : (test : Bool) (o : Option ℕ) → (if test then o else o) ≡ o
dropped true o = refl
dropped false o = refl

kept_out : (o : Option ℕ) (n i room : ℕ) → ((c : ℕ) → o ≡ Some c → i - n + len_utf8 c ≤ room) → room < i →
    (if nat_le n i && is_some_and o (λ c. len_utf8 c == n) then o else None) ≡ None
kept_out None n i room fits past = dropped (nat_le n i && false) None
kept_out (Some c) n i room fits past = rw (too_long n i (len_utf8 c) room (fits c refl) past) refl

-- beyond the end of a text no character ends
none_before : (text : List ℕ) (i : ℕ) → length text < i → char_before text i ≡ None
unfolding char_before
none_before text i past =
    let none : (n : ℕ) → char_of_len_before text n i ≡ None = λ n.
    kept_out _ n i (length text) (λ c e. char_at_fits text (i - n) c e) past in
    rw (none 1, none 2, none 3, none 4) refl

-- What an assertion looks at on one side, the byte and the character there: a word of Unicode exactly if one of
-- ASCII, and never a part of a character.
record AgreesInAscii (byte char : Option ℕ) : Type 0 where
  word : is_some_and char is_word_char ≡ is_some_and byte is_word_byte
  whole : (not (is_some byte) || is_some char) ≡ true

at_byte : (byte char : Option ℕ) (b : ℕ) → byte ≡ Some b → char ≡ Some b → b < 128 → AgreesInAscii byte char
at_byte byte char b one two small = rw (one, two) (record { word = is_word_char-ascii b small; whole = refl })

at_edge : (byte char : Option ℕ) → byte ≡ None → char ≡ None → AgreesInAscii byte char
at_edge byte char one two = rw (one, two) (record { word = refl; whole = refl })

after : (text : List ℕ) → IsAscii text → (i : ℕ) → AgreesInAscii (slice_get text i) (char_at text i)
after text ascii i = at (slice_get_cases text i).1 where
  at : (((x : ℕ) × (i < length text) × (slice_get text i ≡ Some x) × (get_or text i x ≡ x)) ⊎
      ((length text ≤ i) × (slice_get text i ≡ None))) → AgreesInAscii (slice_get text i) (char_at text i)
  at (inl h) =
      let small = byte_below text i h.0 ascii h.2 in
      at_byte _ _ h.0 h.2 (char_at_ascii text i h.0 h.2 small) small
  at (inr h) = at_edge _ _ h.1 (char_at_past text i h.0)

before : (text : List ℕ) → IsAscii text → (i : ℕ) → AgreesInAscii (byte_before text i) (char_before text i)
before text ascii zero = at_edge _ _ (byte_before-zero text) (char_before-zero text)
before text ascii (suc i) = at (slice_get_cases text i).1 where
  next : byte_before text (suc i) ≡ slice_get text i
  next = let step : suc i ≡ i + 1 = omega arith in rw step (byte_before-add-one text i)

  at : (((x : ℕ) × (i < length text) × (slice_get text i ≡ Some x) × (get_or text i x ≡ x)) ⊎
      ((length text ≤ i) × (slice_get text i ≡ None))) → AgreesInAscii (byte_before text (suc i)) (char_before text (suc i))
  at (inl h) =
      let small = byte_below text i h.0 ascii h.2 in
      let read = next ∙ h.2 in
      at_byte _ _ h.0 read (char_before_ascii text (suc i) h.0 read small) small
  at (inr h) = at_edge _ _ (next ∙ h.1) (none_before text (suc i) (omega (arith, h.0)))

-- each assertion about words
pub word : HoldsInAscii look.WordAscii look.WordUnicode
unfolding holds holds_between
word text ascii i = rw ((before text ascii i).word, (after text ascii i).word) refl

pub no_word : HoldsInAscii look.WordAsciiNegate look.WordUnicodeNegate
unfolding holds holds_between
no_word text ascii i = rw ((before text ascii i).word, (after text ascii i).word, (before text ascii i).whole, (after text ascii i).whole)
    refl

pub word_start : HoldsInAscii look.WordStartAscii look.WordStartUnicode
unfolding holds holds_between
word_start text ascii i = rw ((before text ascii i).word, (after text ascii i).word) refl

pub word_end : HoldsInAscii look.WordEndAscii look.WordEndUnicode
unfolding holds holds_between
word_end text ascii i = rw ((before text ascii i).word, (after text ascii i).word) refl

pub word_start_half : HoldsInAscii look.WordStartHalfAscii look.WordStartHalfUnicode
unfolding holds holds_between
word_start_half text ascii i = rw ((before text ascii i).word, (before text ascii i).whole) refl

pub word_end_half : HoldsInAscii look.WordEndHalfAscii look.WordEndHalfUnicode
unfolding holds holds_between
word_end_half text ascii i = rw ((after text ascii i).word, (after text ascii i).whole) refl
