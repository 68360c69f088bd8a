-- What is left of bytes in two pieces.
use Rattle.std.proofs.Common.{◌≡◌, ℕ, ◌+◌, ◌<◌, ◌≤◌, Bool, true, false, List, [], ◌∷◌, ◌++◌, length, get_or, take, drop, set, refl, sym, ap}
use Rattle.std.proofs.Common.{◌∙◌, arith, add-one}
use Rattle.std.proofs.Math.Seq.{drop-cons}
use Rattle.std.proofs.lemmas.List.{append-nil, take_more, take_more_set, drop-set-lt}
use Rattle.ds_script.specs.declared.place.Place.{Place}
use Rattle.ds_script.specs.Left.{next, keeps_byte, text_left, after, kept_before}

kept_before_more : (kept : Bool) (byte : ℕ) (xs ys : List ℕ) → kept_before kept byte (xs ++ ys) ≡ kept_before kept byte xs ++ ys
kept_before_more true byte xs ys = refl
kept_before_more false byte xs ys = refl

-- What is left of two pieces is what is left of the first, and then of the second, from the place after the first.
pub left_append : (at : Place) (xs ys : List ℕ) → text_left at (xs ++ ys) ≡ text_left at xs ++ text_left (after at xs) ys
left_append at [] ys = refl
left_append at (x ∷ xs) ys =
    ap (kept_before (keeps_byte at x) x) (left_append (next at x) xs ys) ∙
    kept_before_more (keeps_byte at x) x (text_left (next at x) xs) (text_left (after (next at x) xs) ys)

pub after_append : (at : Place) (xs ys : List ℕ) → after at (xs ++ ys) ≡ after (after at xs) ys
after_append at [] ys = refl
after_append at (x ∷ xs) ys = after_append (next at x) xs ys

-- ---- a byte more

-- The byte at an index, and the bytes after it, are those of a list with the same rest.
byte_there : (old new : List ℕ) (index : ℕ) → index < length old → length new ≡ length old → drop index new ≡ drop index old →
    get_or new index 0 ≡ get_or old index 0
byte_there old new index h same rest =
    ap (λ l. get_or l 0 0) (sym (drop-cons new index 0 (omega (arith, h, same))) ∙ rest ∙ drop-cons old index 0 h)

pub rest_there : (old new : List ℕ) (index : ℕ) → index < length old → length new ≡ length old → drop index new ≡ drop index old →
    drop (index + 1) new ≡ drop (index + 1) old
rest_there old new index h same rest =
    ap (λ n. drop n new) (add-one index)
    ∙ ap (drop 1) (sym (drop-cons new index 0 (omega (arith, h, same))) ∙ rest ∙ drop-cons old index 0 h)
    ∙ ap (λ n. drop n old) (sym (add-one index))

-- What is left of a byte more.
left_more : (p : Place) (old : List ℕ) (index : ℕ) → index < length old →
    text_left p (take (index + 1) old) ≡
    text_left p (take index old) ++ kept_before (keeps_byte (after p (take index old)) (get_or old index 0)) (get_or old index 0) []
left_more p old index h =
    ap (text_left p) (take_more old index 0 h) ∙ left_append p (take index old) (get_or old index 0 ∷ [])

pub after_more : (p : Place) (old new : List ℕ) (index : ℕ) → index < length old → length new ≡ length old →
    drop index new ≡ drop index old →
    next (after p (take index old)) (get_or new index 0) ≡ after p (take (index + 1) old)
after_more p old new index h same rest =
    ap (next (after p (take index old))) (byte_there old new index h same rest)
    ∙ sym (ap (after p) (take_more old index 0 h) ∙ after_append p (take index old) (get_or old index 0 ∷ []))

-- A byte that is kept is moved to the end of the others.
pub kept_one : (p at : Place) (old new : List ℕ) (kept index : ℕ) → index < length old → kept ≤ index → length new ≡ length old →
    take kept new ≡ text_left p (take index old) → drop index new ≡ drop index old → at ≡ after p (take index old) →
    keeps_byte at (get_or new index 0) ≡ true →
    take (kept + 1) (set new kept (get_or new index 0)) ≡ text_left p (take (index + 1) old)
kept_one p at old new kept index h few same taken rest place is_kept_line =
    let byte : get_or new index 0 ≡ get_or old index 0 = byte_there old new index h same rest in
    let there : keeps_byte (after p (take index old)) (get_or old index 0) ≡ true =
    ap (λ a. keeps_byte a (get_or old index 0)) (sym place) ∙ ap (keeps_byte at) (sym byte) ∙ is_kept_line in
    take_more_set new kept (get_or new index 0) (omega (arith, h, few, same))
    ∙ ap (λ l. l ++ get_or new index 0 ∷ []) taken
    ∙ ap (λ b. text_left p (take index old) ++ b ∷ []) byte
    ∙ sym (left_more p old index h ∙ ap (λ t. text_left p (take index old) ++ kept_before t (get_or old index 0) []) there)

pub rest_one : (old new : List ℕ) (kept index byte : ℕ) → index < length old → kept ≤ index → length new ≡ length old →
    drop index new ≡ drop index old → drop (index + 1) (set new kept byte) ≡ drop (index + 1) old
rest_one old new kept index byte h few same rest =
    drop-set-lt (index + 1) new kept byte (omega (arith, few)) ∙ rest_there old new index h same rest

-- A byte that isn't kept adds nothing.
pub passed_one : (p at : Place) (old new : List ℕ) (kept index : ℕ) → index < length old → length new ≡ length old →
    take kept new ≡ text_left p (take index old) → drop index new ≡ drop index old → at ≡ after p (take index old) →
    keeps_byte at (get_or new index 0) ≡ false → take kept new ≡ text_left p (take (index + 1) old)
passed_one p at old new kept index h same taken rest place is_passed =
    let byte : get_or new index 0 ≡ get_or old index 0 = byte_there old new index h same rest in
    let there : keeps_byte (after p (take index old)) (get_or old index 0) ≡ false =
    ap (λ a. keeps_byte a (get_or old index 0)) (sym place) ∙ ap (keeps_byte at) (sym byte) ∙ is_passed in
    taken ∙ sym (left_more p old index h ∙ ap (λ t. text_left p (take index old) ++ kept_before t (get_or old index 0) []) there ∙
    append-nil (text_left p (take index old)))
