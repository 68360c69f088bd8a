-- Comparing names eight bytes at a time, as numbers.
use Rattle.std.proofs.Common.{◌≡◌, ◌≢◌, ℕ, zero, suc, ◌+◌, ◌-◌, ◌*◌, ◌<◌, ◌≤◌, true, inl, inr, List, [], ◌∷◌, ◌++◌, length, get_or, take}
use Rattle.std.proofs.Common.{drop, replicate, refl, sym, ap, ◌∙◌, arith}
use Rattle.std.specs.Int.{from_be_bytes, w64}
use Rattle.std.specs.List.{list_all}
use Rattle.std.specs.declared.cmp.Ordering.{Ordering}
use Rattle.std.specs.declared.cmp.Ordering.TheVariants.{Less, Equal, Greater}
use Rattle.std.specs.Ordering.{nat_cmp, ordering_then}
use Rattle.std.specs.Cmp.{nat_cmp_is}
use Rattle.std.specs.Cmp.Lexicographic.{slice_cmp}
use Rattle.std.proofs.lemmas.Bool.{cases_lt, and_parts}
use Rattle.std.proofs.lemmas.Bool.Decides.{nat_tests}
use Rattle.std.proofs.lemmas.List.{take-append-drop, length-take-le, length-drop, drop-drop}
use Rattle.ds_names.specs.Name.{is_name_byte}
use Rattle.ds_names.specs.NameBlock.{name_in_block, KeepsName}
use Rattle.ds_names.specs.declared.name.Name.TheInside.{Inside}

-- ---- one byte

less : (x y : ℕ) → x < y → nat_cmp x y ≡ Less
less x y lt = sym (nat_cmp_is x y Less lt)

same : (x : ℕ) → nat_cmp x x ≡ Equal
same x = sym (nat_cmp_is x x Equal refl)

more : (x y : ℕ) → y < x → nat_cmp x y ≡ Greater
more x y lt = sym (nat_cmp_is x y Greater lt)

-- ---- the number that bytes spell

-- The number that a number and the bytes after it spell, big endian.
abbrev pub spelled : ℕ → List ℕ → ℕ
spelled n [] = n
spelled n (b ∷ bs) = spelled (n * 256 + b) bs

abbrev pub AreBytes : List ℕ → Type 0
AreBytes bs = (i : ℕ) → get_or bs i 0 < 256

rises : (a b : ℕ) (us vs : List ℕ) → length us ≡ length vs → AreBytes us → a < b → spelled a us < spelled b vs
rises a b [] [] e small lt = lt
rises a b [] (v ∷ vs) e small lt = absurd (omega (arith, e))
rises a b (u ∷ us) [] e small lt = absurd (omega (arith, e))
rises a b (u ∷ us) (v ∷ vs) e small lt =
    let first : u < 256 = small 0 in
    rises (a * 256 + u) (b * 256 + v) us vs (omega (arith, e)) (λ i. small (suc i)) (omega (arith, lt, first))

-- Byte strings of one length compare as the numbers that they spell.
pub as_numbers : (a : ℕ) (us vs : List ℕ) → length us ≡ length vs → AreBytes us → AreBytes vs →
    slice_cmp nat_cmp us vs ≡ nat_cmp (spelled a us) (spelled a vs)
as_numbers a [] [] e small_u small_v = sym (same a)
as_numbers a [] (v ∷ vs) e small_u small_v = absurd (omega (arith, e))
as_numbers a (u ∷ us) [] e small_u small_v = absurd (omega (arith, e))
as_numbers a (u ∷ us) (v ∷ vs) e small_u small_v =
    elim (cases_lt u v) [
      | inl lt ↦ (let up = rises (a * 256 + u) (a * 256 + v) us vs (omega (arith, e)) (λ i. small_u (suc i)) (omega (arith, lt)) in
          ap (λ (o : Ordering). ordering_then o (slice_cmp nat_cmp us vs)) (less u v lt) ∙ sym (less _ _ up))
      | inr ge ↦ elim (cases_lt v u) [
        | inl gt ↦ (let down = rises (a * 256 + v) (a * 256 + u) vs us (omega (arith, e)) (λ i. small_v (suc i)) (omega (arith, gt)) in
            ap (λ (o : Ordering). ordering_then o (slice_cmp nat_cmp us vs)) (more u v gt) ∙ sym (more _ _ down))
        | inr le ↦ (let level : v ≡ u = omega (arith, ge, le) in
            ap (λ (x : ℕ). ordering_then (nat_cmp u x) (slice_cmp nat_cmp us vs)) level
            ∙ ap (λ (o : Ordering). ordering_then o (slice_cmp nat_cmp us vs)) (same u)
            ∙ as_numbers (a * 256 + u) us vs (omega (arith, e)) (λ i. small_u (suc i)) (λ i. small_v (suc i))
            ∙ ap (λ (x : ℕ). nat_cmp (spelled (a * 256 + u) us) (spelled (a * 256 + x) vs)) (sym level))
      ]
    ]

-- Eight bytes spell the number that they are read as.
pub eight_spell : (us : List ℕ) → length us ≡ 8 → from_be_bytes w64 us ≡ spelled 0 us
eight_spell [] e = absurd (omega (arith, e))
eight_spell (a ∷ []) e = absurd (omega (arith, e))
eight_spell (a ∷ b ∷ []) e = absurd (omega (arith, e))
eight_spell (a ∷ b ∷ c ∷ []) e = absurd (omega (arith, e))
eight_spell (a ∷ b ∷ c ∷ d ∷ []) e = absurd (omega (arith, e))
eight_spell (a ∷ b ∷ c ∷ d ∷ f ∷ []) e = absurd (omega (arith, e))
eight_spell (a ∷ b ∷ c ∷ d ∷ f ∷ g ∷ []) e = absurd (omega (arith, e))
eight_spell (a ∷ b ∷ c ∷ d ∷ f ∷ g ∷ h ∷ []) e = absurd (omega (arith, e))
eight_spell (a ∷ b ∷ c ∷ d ∷ f ∷ g ∷ h ∷ k ∷ []) e = omega arith
eight_spell (a ∷ b ∷ c ∷ d ∷ f ∷ g ∷ h ∷ k ∷ l ∷ us) e = absurd (omega (arith, e))

pub small_drop : (n : ℕ) (bs : List ℕ) → AreBytes bs → AreBytes (drop n bs)
small_drop zero bs h = h
small_drop (suc n) [] h = h
small_drop (suc n) (b ∷ bs) h = small_drop n bs (λ i. h (suc i))

pub small_take : (n : ℕ) (bs : List ℕ) → AreBytes bs → AreBytes (take n bs)
small_take zero bs h i = omega arith
small_take (suc n) [] h i = omega arith
small_take (suc n) (b ∷ bs) h zero = h 0
small_take (suc n) (b ∷ bs) h (suc i) = small_take n bs (λ j. h (suc j)) i

-- ---- two parts

then_then : (o p q : Ordering) → ordering_then (ordering_then o p) q ≡ ordering_then o (ordering_then p q)
then_then Less p q = refl
then_then Equal p q = refl
then_then Greater p q = refl

parted : (x y r s : List ℕ) → length x ≡ length y →
    slice_cmp nat_cmp (x ++ r) (y ++ s) ≡ ordering_then (slice_cmp nat_cmp x y) (slice_cmp nat_cmp r s)
parted [] [] r s e = refl
parted [] (v ∷ y) r s e = absurd (omega (arith, e))
parted (u ∷ x) [] r s e = absurd (omega (arith, e))
parted (u ∷ x) (v ∷ y) r s e = ap (ordering_then (nat_cmp u v)) (parted x y r s (omega (arith, e))) ∙
    sym (then_then (nat_cmp u v) (slice_cmp nat_cmp x y) (slice_cmp nat_cmp r s))

eight_more : (xs ys : List ℕ) → 8 ≤ length xs → length xs ≡ length ys → AreBytes (take 8 xs) → AreBytes (take 8 ys)
    → slice_cmp nat_cmp xs ys ≡ ordering_then (nat_cmp (spelled 0 (take 8 xs)) (spelled 0 (take 8 ys)))
    (slice_cmp nat_cmp (drop 8 xs) (drop 8 ys))
eight_more xs ys long e small_x small_y =
    let len_x = length-take-le 8 xs long in
    let len_y = length-take-le 8 ys (omega (arith, long, e)) in
    ap (λ (t : List ℕ). slice_cmp nat_cmp t ys) (sym (take-append-drop 8 xs))
    ∙ ap (λ (t : List ℕ). slice_cmp nat_cmp (take 8 xs ++ drop 8 xs) t) (sym (take-append-drop 8 ys))
    ∙ parted (take 8 xs) (take 8 ys) (drop 8 xs) (drop 8 ys) (omega (arith, len_x, len_y))
    ∙ ap (λ (o : Ordering). ordering_then o (slice_cmp nat_cmp (drop 8 xs) (drop 8 ys)))
    (as_numbers 0 (take 8 xs) (take 8 ys) (omega (arith, len_x, len_y)) small_x small_y)

pub apart : (x y : ℕ) (o : Ordering) → x ≢ y → ordering_then (nat_cmp x y) o ≡ nat_cmp x y
apart x y o ne =
    elim (cases_lt x y) [
      | inl lt ↦ rw (less x y lt) refl
      | inr ge ↦ elim (cases_lt y x) [ inl gt ↦ rw (more x y gt) refl | inr le ↦ absurd (ne (omega (arith, ge, le))) ]
    ]

pub level : (x y : ℕ) (o : Ordering) → x ≡ y → ordering_then (nat_cmp x y) o ≡ o
level x y o e = ap (λ (z : ℕ). ordering_then (nat_cmp x z) o) (sym e) ∙ ap (λ (p : Ordering). ordering_then p o) (same x)

-- Eight bytes decide, or else those after them.
pub word_more : (xs ys : List ℕ) (n : ℕ) → n < 8 → length xs ≡ 64 → length ys ≡ 64 → AreBytes xs → AreBytes ys
    → slice_cmp nat_cmp (drop (8 * n) xs) (drop (8 * n) ys) ≡ ordering_then
    (nat_cmp (from_be_bytes w64 (take 8 (drop (8 * n) xs))) (from_be_bytes w64 (take 8 (drop (8 * n) ys))))
    (slice_cmp nat_cmp (drop (8 * (n + 1)) xs) (drop (8 * (n + 1)) ys))
word_more xs ys n lt len_x len_y small_x small_y =
    let left_x : length (drop (8 * n) xs) ≡ 64 - 8 * n = length-drop (8 * n) xs ∙ omega (arith, len_x) in
    let left_y : length (drop (8 * n) ys) ≡ 64 - 8 * n = length-drop (8 * n) ys ∙ omega (arith, len_y) in
    let next : 8 * (n + 1) ≡ 8 * n + 8 = omega arith in
    let past : (zs : List ℕ) → drop (8 * (n + 1)) zs ≡ drop 8 (drop (8 * n) zs) = λ zs.
    ap (λ (k : ℕ). drop k zs) next ∙ sym (drop-drop 8 (8 * n) zs) in
    let spell_x = eight_spell (take 8 (drop (8 * n) xs)) (length-take-le 8 (drop (8 * n) xs) (omega (arith, left_x, lt))) in
    let spell_y = eight_spell (take 8 (drop (8 * n) ys)) (length-take-le 8 (drop (8 * n) ys) (omega (arith, left_y, lt))) in
    eight_more (drop (8 * n) xs) (drop (8 * n) ys) (omega (arith, left_x, lt)) (left_x ∙ sym left_y)
    (small_take 8 _ (small_drop (8 * n) xs small_x)) (small_take 8 _ (small_drop (8 * n) ys small_y))
    ∙ ap (λ (x : ℕ). ordering_then (nat_cmp x (spelled 0 (take 8 (drop (8 * n) ys))))
    (slice_cmp nat_cmp (drop 8 (drop (8 * n) xs)) (drop 8 (drop (8 * n) ys)))) (sym spell_x)
    ∙ ap (λ (y : ℕ). ordering_then (nat_cmp (from_be_bytes w64 (take 8 (drop (8 * n) xs))) y)
    (slice_cmp nat_cmp (drop 8 (drop (8 * n) xs)) (drop 8 (drop (8 * n) ys)))) (sym spell_y)
    ∙ ap (λ (r : List ℕ). ordering_then (nat_cmp (from_be_bytes w64 (take 8 (drop (8 * n) xs)))
    (from_be_bytes w64 (take 8 (drop (8 * n) ys)))) (slice_cmp nat_cmp r (drop 8 (drop (8 * n) ys)))) (sym (past xs))
    ∙ ap (λ (s : List ℕ). ordering_then (nat_cmp (from_be_bytes w64 (take 8 (drop (8 * n) xs)))
    (from_be_bytes w64 (take 8 (drop (8 * n) ys)))) (slice_cmp nat_cmp (drop (8 * (n + 1)) xs) s)) (sym (past ys))

-- ---- zeros after names

zeros_same : (n : ℕ) → slice_cmp nat_cmp (replicate n 0) (replicate n 0) ≡ Equal
zeros_same zero = refl
zeros_same (suc n) = zeros_same n

above_zero : (b : ℕ) → is_name_byte b ≡ true → 0 < b
unfolding is_name_byte
above_zero b h = grind (arith, nat_tests)

-- The padding of two names doesn't change their order.
pub padded : (x y : List ℕ) (k m : ℕ) → list_all is_name_byte x ≡ true → list_all is_name_byte y ≡ true → length x + k ≡ length y + m
    → slice_cmp nat_cmp (x ++ replicate k 0) (y ++ replicate m 0) ≡ slice_cmp nat_cmp x y
padded [] [] k m all_x all_y e = ap (λ (n : ℕ). slice_cmp nat_cmp (replicate k 0) (replicate n 0)) (let n : m ≡ k = omega (arith, e) in n)
    ∙ zeros_same k
padded [] (v ∷ y) zero m all_x all_y e = absurd (omega (arith, e))
padded [] (v ∷ y) (suc k) m all_x all_y e =
    ap (λ (o : Ordering). ordering_then o (slice_cmp nat_cmp (replicate k 0) (y ++ replicate m 0)))
    (less 0 v (above_zero v (and_parts (is_name_byte v) (list_all is_name_byte y) all_y).0))
padded (u ∷ x) [] k zero all_x all_y e = absurd (omega (arith, e))
padded (u ∷ x) [] k (suc m) all_x all_y e =
    ap (λ (o : Ordering). ordering_then o (slice_cmp nat_cmp (x ++ replicate k 0) (replicate m 0)))
    (more u 0 (above_zero u (and_parts (is_name_byte u) (list_all is_name_byte x) all_x).0))
padded (u ∷ x) (v ∷ y) k m all_x all_y e =
    let more_x = (and_parts (is_name_byte u) (list_all is_name_byte x) all_x).1 in
    let more_y = (and_parts (is_name_byte v) (list_all is_name_byte y) all_y).1 in
    ap (ordering_then (nat_cmp u v)) (padded x y k m more_x more_y (omega (arith, e)))

whole_of : (b : Inside) → KeepsName b → b.block ≡ name_in_block b ++ replicate (64 - b.len) 0
whole_of b kept = sym (take-append-drop b.len b.block) ∙ ap (λ (z : List ℕ). take b.len b.block ++ z) kept.zeros

-- Blocks compare as the names that they keep.
pub names_order : (b c : Inside) → KeepsName b → KeepsName c →
    slice_cmp nat_cmp b.block c.block ≡ slice_cmp nat_cmp (name_in_block b) (name_in_block c)
names_order b c kept_b kept_c =
    let len_b = length-take-le b.len b.block (omega (arith, kept_b.whole, kept_b.fits)) in
    let len_c = length-take-le c.len c.block (omega (arith, kept_c.whole, kept_c.fits)) in
    ap (λ (t : List ℕ). slice_cmp nat_cmp t c.block) (whole_of b kept_b)
    ∙ ap (λ (t : List ℕ). slice_cmp nat_cmp (name_in_block b ++ replicate (64 - b.len) 0) t) (whole_of c kept_c)
    ∙ padded (name_in_block b) (name_in_block c) (64 - b.len) (64 - c.len) kept_b.name.allowed kept_c.name.allowed
    (omega (arith, len_b, len_c, kept_b.fits, kept_c.fits))
