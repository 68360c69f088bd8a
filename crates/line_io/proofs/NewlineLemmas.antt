-- The first newline of a text.
use Rattle.std.proofs.Common.{◌≢◌, ℕ, zero, suc, ◌+◌, ◌<◌, List, [], ◌∷◌, length, take, Option, Some, None, MatchOption, ap, arith, add-one}
use Rattle.std.proofs.lemmas.Bool.{eqb-true, eq-eqb}
use Rattle.memchr.specs.Find.{Nowhere, Passes, IsFirstByte, is_byte}
use Rattle.line_io.specs.Lines.{IsUnbroken, BreaksAt, EndsLine}

pub unbroken_none : IsUnbroken []
unbroken_none k d h = absurd (omega arith)

pub unbroken_more : (b : ℕ) (bs : List ℕ) → b ≢ 10 → IsUnbroken bs → IsUnbroken (b ∷ bs)
unbroken_more b bs first rest zero d h = first
unbroken_more b bs first rest (suc k) d h = rest k d (omega (arith, h))

-- None of the first `n` bytes is a newline.
abbrev NoneBelow : List ℕ → ℕ → Type 0
NoneBelow text n = Nowhere (Passes (is_byte 10) text) 0 n

none_first : (x : ℕ) (xs : List ℕ) (n : ℕ) → NoneBelow (x ∷ xs) (suc n) → x ≢ 10
none_first x xs n none e = none 0 (omega arith) (omega arith) (eq-eqb x 10 e)

none_rest : (x : ℕ) (xs : List ℕ) (n : ℕ) → NoneBelow (x ∷ xs) (suc n) → NoneBelow xs n
none_rest x xs n none k low high passes = none (suc k) (omega arith) (omega (arith, high)) passes

unbroken : (text : List ℕ) → NoneBelow text (length text) → IsUnbroken text
unbroken [] none = unbroken_none
unbroken (x ∷ xs) none = unbroken_more x xs (none_first x xs (length xs) none) (unbroken xs (none_rest x xs (length xs) none))

breaks_at : (text : List ℕ) (i : ℕ) → i < length text → NoneBelow text i → Passes (is_byte 10) text i → BreaksAt text i
breaks_at [] i h none passes = absurd (omega (arith, h))
breaks_at (x ∷ xs) zero h none passes = record { within = h; line = unbroken_none; parts = ap (λ y. y ∷ []) (eqb-true x 10 passes) }
breaks_at (x ∷ xs) (suc i) h none passes =
    let later : BreaksAt xs i = breaks_at xs i (omega (arith, h)) (none_rest x xs i none) passes in
    record {
      within = h;
      line = unbroken_more x (take i xs) (none_first x xs i none) later.line;
      parts = ap (λ l. x ∷ l) later.parts;
    }

-- what a search for the first newline finds
pub newline_found : (text : List ℕ) (place : Option ℕ) → IsFirstByte (is_byte 10) text place →
    MatchOption place (IsUnbroken text) (BreaksAt text)
newline_found text None found = unbroken text found
newline_found text (Some i) found = breaks_at text i found.0.high found.0.before found.1

pub ends_line : (text : List ℕ) (n : ℕ) → BreaksAt text n → EndsLine (take (n + 1) text)
ends_line text n b = rw add-one (record { front = take n text; parts = b.parts; none = b.line })
