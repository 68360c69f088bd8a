-- In a text of ASCII, a pattern with reduced classes and assertions and without groups matches where the pattern did.
use Rattle.std.proofs.Common.{Vec, Box, Global, Result, Ok, Err, IfOk, ◌≡◌, ℕ, zero, suc, ◌+◌, ◌-◌, ◌*◌, ◌<◌, ◌≤◌, min, Bool, true, false}
use Rattle.std.proofs.Common.{◌&&◌, ◌||◌, List, [], ◌∷◌, ◌++◌, map, take, drop}
use Rattle.std.proofs.Common.{length, get_or, Option, None, Some, is_some, if◌then◌else◌, nat_lt, ⊎_elim, refl, sym, ap, ◌∙◌, arith}
use Rattle.std.specs.Prelude.{nat_le, slice_index, slice_get, option_and_then, encode_utf8}
use Rattle.std.specs.Option.{option_or}
use Rattle.std.specs.declared.alloc.AllocError.{AllocError}
use Rattle.std.specs.Char.{len_utf8}
use Rattle.std.specs.Str.{IsAscii, chars}
use Rattle.std.proofs.lemmas.Str.{IsAscii-drop, chars-IsAscii}
use Rattle.std.proofs.lemmas.List.{map-append, take_all}
use Rattle.std.proofs.lemmas.Bool.{cases_lt, le-leb, lt-leb}
use Rattle.std.proofs.lemmas.Bool.Decides.{nat_tests}
use Rattle.std.proofs.Math.Seq.{take-suc}
use native.Mathlib.Numerals.{unary_clauses}
use Rattle.regex_class.specs.declared.Class.{Class}
use Rattle.regex_class.specs.Ranges.{Range, in_range, in_ranges, HasExactly}
use Rattle.regex_hir.specs.Meaning.{meaning, cat_all, alt_all, optional, copies, up_to, at_least, repeat}
use Rattle.regex_hir.specs.Re.{Re, Trace, Rest, empty, literal, byte_in, char_in, look, cat, alt, group, plus, write, prefer, rounds}
use Rattle.regex_hir.specs.Re.{attempt}
use Rattle.regex_hir.specs.Text.{char_at, is_scalar, is_some_and, has_bytes_at}
use Rattle.regex_hir.specs.Looks.{holds}
use Rattle.regex_hir.specs.declared.look.Look.{Look}
use Rattle.regex_hir.specs.declared.hir.Hir.{Hir}
use Rattle.regex_hir.specs.declared.hir.Hir.TheVariants as hir
use Rattle.regex_hir.proofs.MeaningLemmas.{meaning-Empty, meaning-Literal, meaning-Bytes, meaning-Chars, meaning-Look, meaning-Repetition}
use Rattle.regex_hir.proofs.MeaningLemmas.{meaning-Capture, meaning-Concat, meaning-Alternation}
use Rattle.ds_pattern.specs.Narrow.{SameAscii, SameInAscii, EachSame, HoldsInAscii}

-- What follows `xs` is tried after them.
abbrev Alike : Rest → Rest → Type 0
Alike k l = (i : ℕ) → is_some (k i) ≡ is_some (l i)

either : {T : Type 0} (o p : Option T) → is_some (option_or o p) ≡ (is_some o || is_some p)
either None p = refl
either (Some x) p = refl

either_alike : {T : Type 0} (o p q r : Option T) → is_some o ≡ is_some q → is_some p ≡ is_some r →
    is_some (option_or o p) ≡ is_some (option_or q r)
either_alike o p q r one two = either o p ∙ rw (one, two) refl ∙ sym (either q r)

written : (slot i : ℕ) (o : Option Trace) → is_some (write slot i o) ≡ is_some o
written slot i None = refl
written slot i (Some t) = refl

preferred : (greedy : Bool) (o p q r : Option Trace) → is_some o ≡ is_some q → is_some p ≡ is_some r →
    is_some (prefer greedy o p) ≡ is_some (prefer greedy q r)
preferred true o p q r one two = either_alike o p q r one two
preferred false o p q r one two = either_alike p o r q two one

chosen : (test : Bool) (o p q r : Option Trace) → is_some o ≡ is_some q → is_some p ≡ is_some r →
    is_some (if test then o else p) ≡ is_some (if test then q else r)
chosen true o p q r one two = one
chosen false o p q r one two = two

same_empty : SameInAscii empty empty
unfolding attempt
same_empty text ascii k l alike i = alike i

same_literal : (bytes : List ℕ) → SameInAscii (literal bytes) (literal bytes)
unfolding attempt
same_literal bytes text ascii k l alike i =
    chosen (has_bytes_at text i bytes) (k (i + length bytes)) None (l (i + length bytes)) None (alike (i + length bytes)) refl

same_bytes : (rs : List Range) → SameInAscii (byte_in rs) (byte_in rs)
unfolding attempt
same_bytes rs text ascii k l alike i = chosen (is_some_and (slice_get text i) (in_ranges rs)) (k (i + 1)) None (l (i + 1)) None
    (alike (i + 1)) refl

same_look : (a b : Look) → HoldsInAscii a b → SameInAscii (look a) (look b)
unfolding attempt
same_look a b one text ascii k l alike i = rw (one text ascii i) (chosen (holds b text i) (k i) None (l i) None (alike i) refl)

same_cat : (a b c d : Re) → SameInAscii a b → SameInAscii c d → SameInAscii (cat a c) (cat b d)
unfolding attempt
same_cat a b c d one two text ascii k l alike i = one text ascii (attempt text c k) (attempt text d l) (two text ascii k l alike) i

same_alt : (a b c d : Re) → SameInAscii a b → SameInAscii c d → SameInAscii (alt a c) (alt b d)
unfolding attempt
same_alt a b c d one two text ascii k l alike i = either_alike _ _ _ _ (one text ascii k l alike i) (two text ascii k l alike i)

-- A group matches as its content does.
same_group : (n : ℕ) (a b : Re) → SameInAscii a b → SameInAscii a (group n b)
unfolding attempt
same_group n a b one text ascii k l alike i =
    one text ascii k (λ j. write (2 * n + 1) j (l j)) (λ j. alike j ∙ sym (written (2 * n + 1) j (l j))) i ∙ sym (written (2 * n) i _)

same_rounds : (greedy : Bool) (a b : Re) (text : List ℕ) (k l : Rest) → SameInAscii a b → IsAscii text → Alike k l → (n j : ℕ) →
    is_some (rounds greedy (attempt text a) k n j) ≡ is_some (rounds greedy (attempt text b) l n j)
unfolding rounds
same_rounds greedy a b text k l one ascii alike zero j = alike j
same_rounds greedy a b text k l one ascii alike (suc n) j =
    preferred greedy _ _ _ _
    (one text ascii _ _ (λ i. chosen (nat_lt j i) _ _ _ _ (same_rounds greedy a b text k l one ascii alike n i) refl) j)
    (alike j)

same_plus : (greedy : Bool) (a b : Re) → SameInAscii a b → SameInAscii (plus greedy a) (plus greedy b)
unfolding attempt
same_plus greedy a b one text ascii k l alike i =
    one text ascii _ _ (λ j. chosen (nat_lt i j) _ _ _ _ (same_rounds greedy a b text k l one ascii alike (length text - j) j) (alike j)) i

same_cat_all : (xs ys : List Re) → EachSame xs ys → SameInAscii (cat_all xs) (cat_all ys)
same_cat_all [] [] each = same_empty
same_cat_all [] (b ∷ ys) each = absurd each
same_cat_all (a ∷ xs) [] each = absurd each
same_cat_all (a ∷ xs) (b ∷ ys) each = same_cat _ _ _ _ each.0 (same_cat_all xs ys each.1)

same_alt_all : (xs ys : List Re) → EachSame xs ys → SameInAscii (alt_all xs) (alt_all ys)
same_alt_all [] [] each = same_bytes []
same_alt_all [] (b ∷ ys) each = absurd each
same_alt_all (a ∷ xs) [] each = absurd each
same_alt_all (a ∷ xs) (b ∷ ys) each = same_alt _ _ _ _ each.0 (same_alt_all xs ys each.1)

same_optional : (greedy : Bool) (a b : Re) → SameInAscii a b → SameInAscii (optional greedy a) (optional greedy b)
same_optional true a b one = same_alt _ _ _ _ one same_empty
same_optional false a b one = same_alt _ _ _ _ same_empty one

same_copies : (n : ℕ) (a b c d : Re) → SameInAscii a b → SameInAscii c d → SameInAscii (copies n a c) (copies n b d)
same_copies zero a b c d one two = two
same_copies (suc n) a b c d one two = same_cat _ _ _ _ one (same_copies n a b c d one two)

same_up_to : (greedy : Bool) (n : ℕ) (a b : Re) → SameInAscii a b → SameInAscii (up_to greedy n a) (up_to greedy n b)
same_up_to greedy zero a b one = same_empty
same_up_to greedy (suc n) a b one = same_optional greedy _ _ (same_cat _ _ _ _ one (same_up_to greedy n a b one))

same_at_least : (greedy : Bool) (n : ℕ) (a b : Re) → SameInAscii a b → SameInAscii (at_least greedy n a) (at_least greedy n b)
same_at_least greedy zero a b one = same_optional greedy _ _ (same_plus greedy a b one)
same_at_least greedy (suc n) a b one = same_copies n _ _ _ _ one (same_plus greedy a b one)

same_repeat : (least : ℕ) (most : Option ℕ) (greedy : Bool) (a b : Re) → SameInAscii a b →
    SameInAscii (repeat least most greedy a) (repeat least most greedy b)
unfolding repeat
same_repeat least None greedy a b one = same_at_least greedy least a b one
same_repeat least (Some most) greedy a b one = same_copies least a b _ _ one (same_up_to greedy (most - least) a b one)

-- the number at the front of a text of ASCII is below 128
front_of_ascii : (text : List ℕ) → IsAscii text → slice_index text 0 ≤ 0x7F
front_of_ascii [] ascii = omega arith
front_of_ascii (b ∷ rest) ascii =
    let small : b < 128 = ascii 0 in
    omega (arith, small)

char_of_ascii : (text : List ℕ) (i : ℕ) → IsAscii text → slice_index (chars (drop i text)) 0 ≤ 0x7F
char_of_ascii text i ascii = rw (chars-IsAscii (drop i text) (IsAscii-drop text i ascii))
    (front_of_ascii (drop i text) (IsAscii-drop text i ascii))

char_alike : (there : Bool) (c : ℕ) (rs ss : List Range) (k l : Rest) (i : ℕ) → in_ranges rs c ≡ in_ranges ss c → Alike k l →
    is_some (option_and_then (λ c. if in_ranges rs c then k (i + len_utf8 c) else None) (if there then Some c else None))
    ≡ is_some (option_and_then (λ c. if in_ranges ss c then l (i + len_utf8 c) else None) (if there then Some c else None))
char_alike false c rs ss k l i members alike = refl
char_alike true c rs ss k l i members alike = rw members (chosen (in_ranges ss c) _ _ _ _ (alike (i + len_utf8 c)) refl)

same_chars : (rs ss : List Range) → SameAscii rs ss → SameInAscii (char_in rs) (char_in ss)
unfolding attempt char_at
same_chars rs ss members text ascii k l alike i =
    let c = slice_index (chars (drop i text)) 0 in
    char_alike (is_scalar c && has_bytes_at text i (encode_utf8 c)) c rs ss k l i (members c (char_of_ascii text i ascii)) alike

-- One more.
each_more : (xs ys : List Re) (a b : Re) → EachSame xs ys → SameInAscii a b → EachSame (xs ++ a ∷ []) (ys ++ b ∷ [])
each_more [] [] a b each one = (one, tt)
each_more [] (c ∷ ys) a b each one = absurd each
each_more (c ∷ xs) [] a b each one = absurd each
each_more (c ∷ xs) (d ∷ ys) a b each one = (each.0, each_more xs ys a b each.1 one)

-- The same for each node.
pub narrow_empty : SameInAscii (meaning hir.Empty) (meaning hir.Empty)
narrow_empty = rw meaning-Empty same_empty

pub narrow_literal : (new old : Vec ℕ Global) → new.items ≡ old.items → SameInAscii (meaning (hir.Literal new)) (meaning (hir.Literal old))
narrow_literal new old same = rw (meaning-Literal new, meaning-Literal old, same) (same_literal old.items)

pub narrow_bytes : (new old : Class) → new.ranges.items ≡ old.ranges.items → SameInAscii (meaning (hir.Bytes new)) (meaning (hir.Bytes old))
narrow_bytes new old same = rw (meaning-Bytes new, meaning-Bytes old, same) (same_bytes old.ranges.items)

pub narrow_chars : (new old : Class) → SameAscii new.ranges.items old.ranges.items →
    SameInAscii (meaning (hir.Chars new)) (meaning (hir.Chars old))
narrow_chars new old members = rw (meaning-Chars new, meaning-Chars old) (same_chars new.ranges.items old.ranges.items members)

pub narrow_look : (new old : Look) → HoldsInAscii new old → SameInAscii (meaning (hir.Look new)) (meaning (hir.Look old))
narrow_look new old one = rw (meaning-Look new, meaning-Look old) (same_look new old one)

pub narrow_repetition : (least : ℕ) (most : Option ℕ) (greedy : Bool) (new old : Box Hir Global) →
    SameInAscii (meaning new.value) (meaning old.value) →
    SameInAscii (meaning (hir.Repetition least most greedy new)) (meaning (hir.Repetition least most greedy old))
narrow_repetition least most greedy new old same =
    rw (meaning-Repetition least most greedy new, meaning-Repetition least most greedy old)
    (same_repeat least most greedy (meaning new.value) (meaning old.value) same)

narrow_capture : (n : ℕ) (new : Hir) (old : Box Hir Global) → SameInAscii (meaning new) (meaning old.value) →
    SameInAscii (meaning new) (meaning (hir.Capture n old))
narrow_capture n new old same = rw (meaning-Capture n old) (same_group n (meaning new) (meaning old.value) same)

pub narrow_concat : (new old : Vec Hir Global) → EachSame (map meaning new.items) (map meaning old.items) →
    SameInAscii (meaning (hir.Concat new)) (meaning (hir.Concat old))
narrow_concat new old each = rw (meaning-Concat new, meaning-Concat old) (same_cat_all (map meaning new.items) (map meaning old.items) each)

pub narrow_alternation : (new old : Vec Hir Global) → EachSame (map meaning new.items) (map meaning old.items) →
    SameInAscii (meaning (hir.Alternation new)) (meaning (hir.Alternation old))
narrow_alternation new old each = rw (meaning-Alternation new, meaning-Alternation old)
    (same_alt_all (map meaning new.items) (map meaning old.items) each)

take_next : {T : Type 0} (l : List T) (i : ℕ) (x : T) → i < length l → get_or l i x ≡ x → take (i + 1) l ≡ take i l ++ x ∷ []
take_next l i x inside read = simp unary_clauses (take-suc l i x inside ∙ ap (λ y. take i l ++ y ∷ []) read)

-- One more tree.
pub each_next : (new old : List Hir) (tree : Hir) (i : ℕ) (next : Hir) → i < length old → get_or old i next ≡ next →
    EachSame (map meaning new) (map meaning (take i old)) → SameInAscii (meaning tree) (meaning next) →
    EachSame (map meaning (new ++ tree ∷ [])) (map meaning (take (i + 1) old))
each_next new old tree i next inside read each same =
    rw (take_next old i next inside read, map-append meaning (take i old) (next ∷ []), map-append meaning new (tree ∷ []))
    (each_more (map meaning new) (map meaning (take i old)) (meaning tree) (meaning next) each same)

or_in_turn : (a b c : Bool) → (a || (b || c)) ≡ ((a || b) || c)
or_in_turn true b c = refl
or_in_turn false b c = refl

or_false : (a : Bool) → (a || false) ≡ a
or_false true = refl
or_false false = refl

-- a range from 128 on has no member of ASCII
outside : (r : Range) (c : ℕ) → c ≤ 0x7F → 0x7F < r.0 → in_ranges (r ∷ []) c ≡ false
unfolding in_ranges in_range
outside r c small high = grind (arith, nat_tests)

in_more : (rs ss : List Range) (c : ℕ) → in_ranges (rs ++ ss) c ≡ (in_ranges rs c || in_ranges ss c)
unfolding in_ranges
in_more [] ss c = refl
in_more (r ∷ rs) ss c = rw (in_more rs ss c) (or_in_turn (in_range r c) (in_ranges rs c) (in_ranges ss c))

-- The part that a range loses isn't ASCII.
cut : (r : Range) (last c : ℕ) → last ≡ min r.1 0x7F → c ≤ 0x7F → in_ranges ((r.0, last) ∷ []) c ≡ in_ranges (r ∷ []) c
unfolding in_ranges in_range
cut r last c is small = rw (below r.1 last c is small) refl where
  below : (end last c : ℕ) → last ≡ min end 0x7F → c ≤ 0x7F → nat_le c last ≡ nat_le c end
  below end last c is small = ⊎_elim
      (λ (beyond : end < c). lt-leb _ _ (omega (arith, is, beyond)) ∙ sym (lt-leb _ _ beyond))
      (λ (within : c ≤ end). le-leb _ _ (omega (arith, is, within, small)) ∙ sym (le-leb _ _ within))
      (cases_lt end c)

-- A further range, cut to ASCII, or left out if it has no member below 128.
pub range_taken : (new old : List Range) (i : ℕ) (r : Range) (last : ℕ) → i < length old → get_or old i r ≡ r → last ≡ min r.1 0x7F →
    SameAscii new (take i old) → SameAscii (new ++ (r.0, last) ∷ []) (take (i + 1) old)
range_taken new old i r last inside read is same c small =
    rw (
      take_next old i r inside read,
      in_more (take i old) (r ∷ []) c,
      in_more new ((r.0, last) ∷ []) c,
      same c small,
      cut r last c is
          small,
    ) refl

pub range_left : (new old : List Range) (i : ℕ) (r : Range) → i < length old → get_or old i r ≡ r → 0x7F < r.0 →
    SameAscii new (take i old) → SameAscii new (take (i + 1) old)
range_left new old i r inside read high same c small =
    rw (take_next old i r inside read, in_more (take i old) (r ∷ []) c, outside r c small high) (same c small ∙ sym (or_false _))

-- All ranges were visited.
pub all_taken : (new old : List Range) (i : ℕ) → length old ≤ i → SameAscii new (take i old) → SameAscii new old
all_taken new old i past same c small = same c small ∙ ap (λ rs. in_ranges rs c) (take_all i old past)

-- A class of exactly these ranges has the same members of ASCII.
pub ascii_of_all : (r : Result Class AllocError) (taken old : List Range) → SameAscii taken old →
    IfOk r (λ new. HasExactly new.ranges.items (in_ranges taken)) → IfOk r (λ new. SameAscii new.ranges.items old)
ascii_of_all (Ok new) taken old same h = λ c small. h c (omega (arith, small)) ∙ same c small
ascii_of_all (Err e) taken old same h = tt

pub narrow_inside : (r : Result Hir AllocError) (n : ℕ) (old : Box Hir Global) →
    IfOk r (λ new. SameInAscii (meaning new) (meaning old.value)) → IfOk r (λ new. SameInAscii (meaning new) (meaning (hir.Capture n old)))
narrow_inside (Ok new) n old h = narrow_capture n new old h
narrow_inside (Err e) n old h = tt
