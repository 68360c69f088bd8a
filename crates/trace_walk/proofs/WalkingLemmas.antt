-- The place of a walk in its input, line by line.
use Rattle.std.proofs.Common.{◌≡◌, ◌≢◌, ℕ, suc, ◌<◌, ◌≤◌, List, [], ◌∷◌, ◌++◌, length, get_or, drop, Option, Some, None, inl, inr, refl}
use Rattle.std.proofs.Common.{sym, ap, subst, ◌∙◌, arith, append_assoc, append-nil, length-append}
use Rattle.std.specs.List.{All}
use Rattle.std.specs.Io.KnownBytes.{Consumes, IsAtEnd}
use Rattle.std.proofs.lemmas.Grind.{flat_map-append}
use Rattle.std.proofs.lemmas.List.{append_cancel_right}
use Rattle.std.proofs.lemmas.List.Elements.{All-nil, All-cons, All-append}
use Rattle.line_io.specs.Lines.{IsUnbroken, EndsLine, with_newline, joined, unended, HasLines}
use Rattle.line_io.specs.Reading.{LinesContent}
use Rattle.line_io.specs.Pulling.{left, ComesNext, StandsFirst}
use Rattle.trace_walk.proofs.SplitLemmas.{split_same}
use Rattle.trace_walk.specs.Walking.{IsAt, HasLine, IsRead, IsLong}

-- ---- the lines of what is left

pub unbroken_has_none : (a b : List ℕ) → IsUnbroken (a ++ 10 ∷ b) → ⊥
unbroken_has_none [] b all = all 0 0 (omega arith) refl
unbroken_has_none (x ∷ a) b all = unbroken_has_none a b (λ k d lt. all (suc k) d (omega (arith, lt)))

tail_of : (y : List ℕ) (ys : List (List ℕ)) → All IsUnbroken (y ∷ ys) → All IsUnbroken ys
tail_of y ys all k d lt = all (suc k) d (omega (arith, lt))

-- a text that begins with a line has it as its first line
by_front : (line rest last : List ℕ) (front after : List (List ℕ))
    → IsUnbroken line → All IsUnbroken front → IsUnbroken last → with_newline line ++ rest ≡ joined front ++ last
    → after ≡ front ++ unended last
    → (more : List (List ℕ)) × (after ≡ line ∷ more) × HasLines rest more
by_front line rest last [] after whole all all_last e f =
    absurd (unbroken_has_none line rest (subst IsUnbroken (sym e ∙ append_assoc line (10 ∷ []) rest) all_last))
by_front line rest last (y ∷ ys) after whole all all_last e f =
    let right : joined (y ∷ ys) ++ last ≡ y ++ 10 ∷ (joined ys ++ last) =
    append_assoc (with_newline y) (joined ys) last ∙ append_assoc y (10 ∷ []) (joined ys ++ last) in
    let one = split_same 10 line y rest (joined ys ++ last) whole (all 0 y (omega arith))
    (sym (append_assoc line (10 ∷ []) rest) ∙ e ∙ right) in (
      ys ++ unended last,
      f ∙ ap (λ (x : List ℕ). x ∷ (ys ++ unended last)) (sym one.0),
      record { front = ys; last = last; text = one.1; unbroken = tail_of y ys all; unbroken_last = all_last; all = refl },
    )

pub first_line : (line rest : List ℕ) (after : List (List ℕ)) → IsUnbroken line → HasLines (with_newline line ++ rest) after →
    (more : List (List ℕ)) × (after ≡ line ∷ more) × HasLines rest more
first_line line rest after whole h = by_front line rest h.last h.front after whole h.unbroken h.unbroken_last h.text h.all

-- what has no newline is one line
by_last : (text last : List ℕ) (front after : List (List ℕ)) → IsUnbroken text → text ≡ joined front ++ last →
    after ≡ front ++ unended last → after ≡ unended text
by_last text last [] after whole e f = f ∙ ap (λ (l : List ℕ). unended l) (sym e)
by_last text last (y ∷ ys) after whole e f =
    absurd (unbroken_has_none y (joined ys ++ last)
    (subst IsUnbroken (e ∙ append_assoc (with_newline y) (joined ys) last ∙ append_assoc y (10 ∷ []) (joined ys ++ last)) whole))

pub only_line : (text : List ℕ) (after : List (List ℕ)) → IsUnbroken text → HasLines text after → after ≡ unended text
only_line text after whole h = by_last text h.last h.front after whole h.text h.all

some_unended : (text : List ℕ) → 0 < length text → unended text ≡ text ∷ []
some_unended [] some = absurd (omega (arith, some))
some_unended (b ∷ bs) some = refl

pub no_lines_left : HasLines [] []
no_lines_left =
    record { front = []; last = []; text = refl; unbroken = All-nil IsUnbroken; unbroken_last = All-nil (λ (b : ℕ). b ≢ 10); all = refl }

-- every line is without a newline
unended_whole : (last : List ℕ) → IsUnbroken last → All IsUnbroken (unended last)
unended_whole [] whole = All-nil IsUnbroken
unended_whole (b ∷ bs) whole = All-cons IsUnbroken (b ∷ bs) [] whole (All-nil IsUnbroken)

whole_in : (line : List ℕ) (before more : List (List ℕ)) → All IsUnbroken (before ++ line ∷ more) → IsUnbroken line
whole_in line [] more all = all 0 line (omega arith)
whole_in line (y ∷ ys) more all = whole_in line ys more (tail_of y (ys ++ line ∷ more) all)

pub whole_line : (bytes line : List ℕ) (before more : List (List ℕ)) → HasLines bytes (before ++ line ∷ more) → IsUnbroken line
whole_line bytes line before more h =
    whole_in line before more (subst (λ (l : List (List ℕ)). All IsUnbroken l) (sym h.all)
    (All-append IsUnbroken h.front (unended h.last) h.unbroken (unended_whole h.last h.unbroken_last)))

-- ---- one more line

known_after : (rest line : List ℕ) (to : Option (List ℕ)) → Consumes (Some rest) to line →
    (past : List ℕ) × (to ≡ Some past) × (rest ≡ line ++ past)
known_after rest line None c = absurd c
known_after rest line (Some past) c = (past, refl, c)

joined_more : (before : List (List ℕ)) (line : List ℕ) → joined (before ++ line ∷ []) ≡ joined before ++ with_newline line
joined_more before line = flat_map-append with_newline before (line ∷ []) ∙
    ap (λ (l : List ℕ). joined before ++ l) (append-nil (with_newline line))

count_more : (before : List (List ℕ)) (line : List ℕ) → length (before ++ line ∷ []) ≡ suc (length before)
count_more before line = omega (arith, length-append before (line ∷ []))

gone_to : (bytes front line : List ℕ) (old new : LinesContent) (from to : Option (List ℕ)) (at : IsAt bytes front old from)
    (past : List ℕ) (more : List (List ℕ))
    → IsUnbroken line → at.after ≡ line ∷ more → HasLines past more → left new to ≡ Some past → new.count ≡ suc old.count
    → HasLine bytes front line new to
gone_to bytes front line old new from to at past more whole is lines left_is count =
    let same : at.before ++ at.after ≡ (at.before ++ line ∷ []) ++ more =
    ap (λ (l : List (List ℕ)). at.before ++ l) is ∙ sym (append_assoc at.before (line ∷ []) more) in
    record {
      before = at.before;
      more = more;
      whole = whole;
      lines = subst (HasLines bytes) (ap (λ (l : List (List ℕ)). at.before ++ l) is) at.lines;
      front_is = at.front_is;
      counted = count ∙ ap suc at.counted;
      then = record {
        before = at.before ++ line ∷ [];
        after = more;
        rest = past;
        lines = subst (HasLines bytes) same at.lines;
        past = lines;
        left_is = left_is;
        front_is = ap (λ (l : List ℕ). l ++ with_newline line) at.front_is ∙ sym (joined_more at.before line);
        counted = count ∙ ap suc at.counted ∙ sym (count_more at.before line);
      };
    }

at_end_is : (to : Option (List ℕ)) (rest last : List ℕ) → Consumes (Some rest) to last → IsAtEnd to → (to ≡ Some []) × (rest ≡ last)
at_end_is None rest last c e = absurd c
at_end_is (Some past) rest last c e = (ap (λ (l : List ℕ). Some l) e, c ∙ ap (λ (l : List ℕ). last ++ l) e ∙ append-nil last)

-- the line that comes is the first of those that are left
pub line_comes : (bytes front : List ℕ) (old new : LinesContent) (from to : Option (List ℕ))
    → IsAt bytes front old from → EndsLine new.line → ComesNext new.line (left old from) (left new to) → new.count ≡ suc old.count
    → (line : List ℕ) × (new.line ≡ with_newline line) × HasLine bytes front line new to
line_comes bytes front old new from to at ends (inl c) count =
    let k = known_after at.rest new.line (left new to) (subst (λ (o : Option (List ℕ)). Consumes o (left new to) new.line) at.left_is c) in
    let split : at.rest ≡ with_newline ends.front ++ k.0 = k.2 ∙ ap (λ (l : List ℕ). l ++ k.0) ends.parts in
    let f = first_line ends.front k.0 at.after ends.none (subst (λ (l : List ℕ). HasLines l at.after) split at.past) in
    (ends.front, ends.parts, gone_to bytes front ends.front old new from to at k.0 f.0 ends.none f.1 f.2 k.1 count)
line_comes bytes front old new from to at ends (inr c) count =
    let last : List ℕ = c.0 in
    let k = at_end_is (left new to) at.rest last (subst (λ (o : Option (List ℕ)). Consumes o (left new to) last) at.left_is c.3) c.4 in
    let only = only_line last at.after (last_unbroken last ends c.2) (subst (λ (l : List ℕ). HasLines l at.after) k.1 at.past) ∙
    some_unended last c.1 in
    (last, c.2, gone_to bytes front last old new from to at [] [] (last_unbroken last ends c.2) only no_lines_left k.0 count)
  where
    last_unbroken : (last : List ℕ) → (ends : EndsLine new.line) → new.line ≡ with_newline last → IsUnbroken last
    last_unbroken last ends e = subst IsUnbroken (append_cancel_right ends.front last (10 ∷ []) (sym ends.parts ∙ e)) ends.none

-- if nothing is left, the front is the whole input
pub none_comes : (bytes front : List ℕ) (old : LinesContent) (from : Option (List ℕ)) (number : ℕ) → IsAt bytes front old from →
    IsAtEnd (left old from) → number ≡ old.count → IsRead bytes front number
none_comes bytes front old from number at e count =
    let none : at.rest ≡ [] = subst (λ (o : Option (List ℕ)). IsAtEnd o) at.left_is e in
    let empty : at.after ≡ [] = only_line [] at.after (All-nil (λ (b : ℕ). b ≢ 10))
    (subst (λ (l : List ℕ). HasLines l at.after) none at.past) in (
      at.before,
      subst (HasLines bytes) (ap (λ (l : List (List ℕ)). at.before ++ l) empty ∙ append-nil at.before) at.lines,
      at.front_is,
      count ∙ at.counted,
    )

-- ---- a long line

-- a front without a newline is a front of the first line
pub front_within : (f y r s : List ℕ) → IsUnbroken f → f ++ r ≡ y ++ 10 ∷ s → length f ≤ length y
front_within [] y r s whole e = omega arith
front_within (x ∷ f) [] r s whole e = absurd (whole 0 0 (omega arith) (ap (λ (l : List ℕ). get_or l 0 0) e))
front_within (x ∷ f) (z ∷ y) r s whole e =
    omega (arith, front_within f y r s (λ k d lt. whole (suc k) d (omega (arith, lt))) (ap (drop 1) e))

pub record HasLong (after : List (List ℕ)) : Type 0 where
  pub line : List ℕ
  pub more : List (List ℕ)
  pub is : after ≡ line ∷ more
  pub whole : IsUnbroken line
  pub long : 4096 < length line

long_by : (f r last : List ℕ) (front after : List (List ℕ)) → IsUnbroken f → 4096 < length f → All IsUnbroken front → IsUnbroken last →
    f ++ r ≡ joined front ++ last → after ≡ front ++ unended last → HasLong after
long_by f r last [] after whole long all all_last e g =
    let some : 4096 < length last = omega (arith, long, ap length e, length-append f r) in
    record { line = last; more = []; is = g ∙ some_unended last (omega (arith, some)); whole = all_last; long = some }
long_by f r last (y ∷ ys) after whole long all all_last e g =
    let right : joined (y ∷ ys) ++ last ≡ y ++ 10 ∷ (joined ys ++ last) =
    append_assoc (with_newline y) (joined ys) last ∙ append_assoc y (10 ∷ []) (joined ys ++ last) in
    record {
      line = y;
      more = ys ++ unended last;
      is = g;
      whole = all 0 y (omega arith);
      long =
          omega (arith, long, front_within f y r (joined ys ++ last) whole (e ∙ right));
    }

stands_first : (rest f : List ℕ) (past : Option (List ℕ)) → Consumes (Some rest) past f → (r : List ℕ) × (rest ≡ f ++ r)
stands_first rest f None c = absurd c
stands_first rest f (Some r) c = (r, c)

pub long_comes : (bytes front : List ℕ) (old : LinesContent) (from : Option (List ℕ)) (f : List ℕ) (number : ℕ)
    → IsAt bytes front old from → StandsFirst f (left old from) → IsUnbroken f → 4096 < length f → number ≡ suc old.count
    → IsLong bytes front number
long_comes bytes front old from f number at first whole long count =
    let r = stands_first at.rest f first.0 (subst (λ (o : Option (List ℕ)). Consumes o first.0 f) at.left_is first.1) in
    let h = at.past in
    let one = long_by f r.0 h.last h.front at.after whole long h.unbroken h.unbroken_last (sym r.1 ∙ h.text) h.all in
    record {
      before = at.before;
      line = one.line;
      more = one.more;
      whole = one.whole;
      long = one.long;
      lines = subst (HasLines bytes) (ap (λ (l : List (List ℕ)). at.before ++ l) one.is) at.lines;
      front_is = at.front_is;
      counted = count ∙ ap suc at.counted;
    }
