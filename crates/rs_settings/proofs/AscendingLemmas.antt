-- A text among texts in ascending order: where it is, or where it goes.
use Rattle.std.proofs.Common.{◌≡◌, ℕ, ◌<◌, ◌≤◌, ◌||◌, ◌+◌, Bool, true, false, List, [], ◌∷◌, ◌++◌, length, get_or, take, drop, map}
use Rattle.std.proofs.Common.{Ordering, Less, Equal, Greater, nat_cmp, is_eq, refl, sym, subst, ap, ◌∙◌, arith, inl, inr, zero, suc, ◌⊎◌}
use Rattle.std.specs.List.{list_any, insert}
use Rattle.std.specs.List.Sorted.{IsNonDecreasingBy, IsPartitionPoint}
use Rattle.std.specs.Ordering.{ordering_index, ordering_reverse}
use Rattle.std.specs.Cmp.Lexicographic.{slice_cmp}
use Rattle.std.specs.Cmp.{IsTotalOrder}
use Rattle.std.proofs.lemmas.Cmp.{nat_list_cmp_total, nat_list_eq_equiv, same_from_slice_cmp}
use Rattle.std.proofs.lemmas.Bool.{cases_Bool}
use Rattle.std.proofs.lemmas.Bool.Decides.{nat_tests}
use Rattle.std.proofs.lemmas.List.{take-append-drop}
use Rattle.std.proofs.lemmas.List.Edits.{length-insert, get_or-insert_below, get_or-insert_at, get_or-insert_above}
use Rattle.rs_settings.specs.Values.{is_same}
use Rattle.rs_settings.specs.Shared.{has_name}
use Rattle.rs_settings.specs.Ascending.{AreAscending}

-- two texts are the same where they compare alike
pub is_same-cmp : (x y : List ℕ) → is_same x y ≡ is_eq (slice_cmp nat_cmp x y)
is_same-cmp x y = sym (same_from_slice_cmp nat_cmp is_eq is_same refl (λ _ _. refl) (λ _ _. refl)
    (λ a b xs ys o h. grind (arith, nat_tests)) x y (slice_cmp nat_cmp x y) refl)

-- a lower text doesn't compare greater
index_rises : (a b x : List ℕ) → slice_cmp nat_cmp a b ≡ Less →
    ordering_index (slice_cmp nat_cmp a x) ≤ ordering_index (slice_cmp nat_cmp b x)
index_rises a b x below = by_cases (slice_cmp nat_cmp b x) refl
  where
    o : IsTotalOrder (slice_cmp nat_cmp)
    o = nat_list_cmp_total

    greatest : (r : Ordering) → ordering_index r ≤ 2
    greatest Less = omega arith
    greatest Equal = omega arith
    greatest Greater = omega arith

    by_cases : (r : Ordering) → slice_cmp nat_cmp b x ≡ r → ordering_index (slice_cmp nat_cmp a x) ≤ ordering_index r
    by_cases Less e = rw (o.trans a b x below e) (omega arith)
    by_cases Equal e =
        let f : slice_cmp nat_cmp b a ≡ slice_cmp nat_cmp x a = o.congr b x a e in
        let g : slice_cmp nat_cmp a x ≡ Less = o.antisymm a x ∙ ap ordering_reverse (sym f) ∙ sym (o.antisymm a b) ∙ below in
        rw g (omega arith)
    by_cases Greater e = greatest (slice_cmp nat_cmp a x)

module _ {X : Type 0} (text : X → List ℕ) where
  -- so a search by halves finds its way
  pub search_rises : (xs : List X) (x : List ℕ) → AreAscending text xs →
      IsNonDecreasingBy (λ y. ordering_index (slice_cmp nat_cmp (text y) x)) xs
  search_rises xs x rise i j d le l = elim (cases i j le) [
    | inl below ↦ index_rises (text (get_or xs i d)) (text (get_or xs j d)) x (rise i j d below l)
    | inr same ↦ subst (λ k. ordering_index (slice_cmp nat_cmp (text (get_or xs i d)) x) ≤ ordering_index
        (slice_cmp nat_cmp (text (get_or xs k d)) x)) same (omega arith)
  ]
    where
      cases : (i j : ℕ) → i ≤ j → (i < j) ⊎ (i ≡ j)
      cases i j le = grind arith

  list_any-append : (test : X → Bool) (xs ys : List X) → list_any test (xs ++ ys) ≡ (list_any test xs || list_any test ys)
  list_any-append test [] ys = refl
  list_any-append test (x ∷ xs) ys = ap (λ b. test x || b) (list_any-append test xs ys) ∙
      or_assoc (test x) (list_any test xs) (list_any test ys)
    where
      or_assoc : (a b c : Bool) → a || (b || c) ≡ (a || b) || c
      or_assoc true b c = refl
      or_assoc false b c = refl

  has_name-texts : (xs : List X) (n : List ℕ) → has_name (map text xs) n ≡ list_any (λ y. is_same n (text y)) xs
  has_name-texts [] n = refl
  has_name-texts (x ∷ xs) n = ap (λ b. is_same n (text x) || b) (has_name-texts xs n)

  -- an element that is put among the others is there, beside them
  pub has_name-insert : (xs : List X) (i : ℕ) (y : X) (n : List ℕ) →
      has_name (map text (insert xs i y)) n ≡ (has_name (map text xs) n || is_same n (text y))
  has_name-insert xs i y n =
      has_name-texts (insert xs i y) n
      ∙ list_any-append (λ z. is_same n (text z)) (take i xs) (y ∷ drop i xs)
      ∙ moved (list_any (λ z. is_same n (text z)) (take i xs)) (is_same n (text y)) (list_any (λ z. is_same n (text z)) (drop i xs))
      ∙ ap (λ b. b || is_same n (text y)) (sym (list_any-append (λ z. is_same n (text z)) (take i xs) (drop i xs)) ∙
      ap (list_any (λ z. is_same n (text z))) (take-append-drop i xs) ∙ sym (has_name-texts xs n))
    where
      moved : (a b c : Bool) → a || (b || c) ≡ (a || c) || b
      moved true b c = refl
      moved false true true = refl
      moved false true false = refl
      moved false false true = refl
      moved false false false = refl

  -- an element at which the search ended is there
  pub has_name-found : (xs : List X) (i : ℕ) (x : List ℕ) → i < length xs →
      ((d : X) → slice_cmp nat_cmp (text (get_or xs i d)) x ≡ Equal) → has_name (map text xs) x ≡ true
  has_name-found [] i x l here = absurd (omega arith)
  has_name-found (y ∷ ys) zero x l here = rw (same (here y)) refl
    where
      o : IsTotalOrder (slice_cmp nat_cmp)
      o = nat_list_cmp_total

      same : slice_cmp nat_cmp (text y) x ≡ Equal → is_same x (text y) ≡ true
      same e = is_same-cmp x (text y) ∙ ap is_eq (o.antisymm x (text y) ∙ ap ordering_reverse e)
  has_name-found (y ∷ ys) (suc i) x l here =
      or_true (is_same x (text y)) (has_name (map text ys) x) (has_name-found ys i x (omega arith) here)
    where
      or_true : (a b : Bool) → b ≡ true → a || b ≡ true
      or_true true b e = refl
      or_true false b e = e

  differ : (x y : List ℕ) (r : Ordering) → is_eq r ≡ false → slice_cmp nat_cmp y x ≡ r → is_same x y ≡ false
  differ x y r other e = is_same-cmp x y ∙ ap is_eq (nat_list_cmp_total.antisymm x y ∙ ap ordering_reverse e) ∙ turned r other
    where
      turned : (r : Ordering) → is_eq r ≡ false → is_eq (ordering_reverse r) ≡ false
      turned Less h = refl
      turned Equal h = h
      turned Greater h = refl

  none_same : (xs : List X) (x : List ℕ) → ((k : ℕ) (d : X) → k < length xs → is_same x (text (get_or xs k d)) ≡ false) →
      has_name (map text xs) x ≡ false
  none_same [] x h = refl
  none_same (y ∷ ys) x h = rw (h zero y (omega arith)) (none_same ys x (λ k d l. h (suc k) d (omega arith)))

  -- where the search found a place between the lower and the higher ones, it isn't there
  pub has_name-none : (xs : List X) (i : ℕ) (x : List ℕ) →
      IsPartitionPoint (λ y. slice_cmp nat_cmp (text y) x ≡ Less) (λ y. slice_cmp nat_cmp (text y) x ≡ Greater) xs i →
      has_name (map text xs) x ≡ false
  has_name-none xs i x (lower, higher) = none_same xs x (λ k d l. by_side k d l (side k i))
    where
      side : (k i : ℕ) → (k < i) ⊎ (i ≤ k)
      side k i = grind arith

      by_side : (k : ℕ) (d : X) → k < length xs → (k < i) ⊎ (i ≤ k) → is_same x (text (get_or xs k d)) ≡ false
      by_side k d l (inl below) = differ x (text (get_or xs k d)) Less refl (lower k d (omega arith) below)
      by_side k d l (inr above) = differ x (text (get_or xs k d)) Greater refl (higher k d above l)

  -- at that place it keeps the order
  pub ascending-insert : (xs : List X) (i : ℕ) (y : X) → i ≤ length xs → AreAscending text xs →
      IsPartitionPoint (λ z. slice_cmp nat_cmp (text z) (text y) ≡ Less) (λ z. slice_cmp nat_cmp (text z) (text y) ≡ Greater) xs i →
      AreAscending text (insert xs i y)
  ascending-insert xs i y le rise (lower, higher) a b d below l =
      by_place a b below (omega (arith, length-insert xs i y le)) (where_is b i) (where_is a i)
    where
      where_is : (k i : ℕ) → (k < i) ⊎ ((k ≡ i) ⊎ ((m : ℕ) × (k ≡ m + 1) × (i ≤ m)))
      where_is zero zero = inr (inl refl)
      where_is zero (suc i) = inl (omega arith)
      where_is (suc k) zero = inr (inr (k, omega arith, omega arith))
      where_is (suc k) (suc i) = elim (where_is k i) [
        | inl h ↦ inl (omega arith)
        | inr h ↦ elim h [
          | inl e ↦ inr (inl (omega arith))
          | inr p ↦ inr (inr (p.0 + 1, omega (arith, p.1), omega (arith, p.2)))
        ]
      ]

      turned : (p q : List ℕ) → slice_cmp nat_cmp p q ≡ Greater → slice_cmp nat_cmp q p ≡ Less
      turned p q e = nat_list_cmp_total.antisymm q p ∙ ap ordering_reverse e

      by_place : (a b : ℕ) → a < b → b < length xs + 1 → (b < i) ⊎ ((b ≡ i) ⊎ ((m : ℕ) × (b ≡ m + 1) × (i ≤ m))) →
          (a < i) ⊎ ((a ≡ i) ⊎ ((m : ℕ) × (a ≡ m + 1) × (i ≤ m))) →
          slice_cmp nat_cmp (text (get_or (insert xs i y) a d)) (text (get_or (insert xs i y) b d)) ≡ Less
      by_place a b below l (inl bi) ai = rw (get_or-insert_below xs i y d a (omega arith) le, get_or-insert_below xs i y d b bi le)
          (rise a b d below (omega arith))
      by_place a b below l (inr (inl be)) ai = subst
          (λ k. slice_cmp nat_cmp (text (get_or (insert xs i y) a d)) (text (get_or (insert xs i y) k d)) ≡ Less) (sym be)
          (rw (get_or-insert_below xs i y d a (omega arith) le, get_or-insert_at xs i y d le) (lower a d (omega arith) (omega arith)))
      by_place a b below l (inr (inr (m, e, im))) (inl ai) =
          subst (λ k. slice_cmp nat_cmp (text (get_or (insert xs i y) a d)) (text (get_or (insert xs i y) k d)) ≡ Less) (sym e)
          (rw (get_or-insert_below xs i y d a ai le, get_or-insert_above xs i y d m im le) (rise a m d (omega arith) (omega arith)))
      by_place a b below l (inr (inr (m, e, im))) (inr (inl ae)) =
          subst (λ k. slice_cmp nat_cmp (text (get_or (insert xs i y) a d)) (text (get_or (insert xs i y) k d)) ≡ Less)
          (sym e) (subst (λ k. slice_cmp nat_cmp (text (get_or (insert xs i y) k d)) (text (get_or (insert xs i y) (m + 1) d)) ≡ Less)
          (sym ae)
          (rw (get_or-insert_at xs i y d le, get_or-insert_above xs i y d m im le)
          (turned (text (get_or xs m d)) (text y) (higher m d im (omega arith)))))
      by_place a b below l (inr (inr (m, e, im))) (inr (inr (n, f, in_))) = subst
          (λ k. slice_cmp nat_cmp (text (get_or (insert xs i y) a d)) (text (get_or (insert xs i y) k d)) ≡ Less) (sym e)
          (subst (λ k. slice_cmp nat_cmp (text (get_or (insert xs i y) k d)) (text (get_or (insert xs i y) (m + 1) d)) ≡ Less) (sym f)
          (rw (get_or-insert_above xs i y d n in_ le, get_or-insert_above xs i y d m im le) (rise n m d (omega arith) (omega arith))))

-- names that are the same are looked up alike
pub has_name-same : (names : List (List ℕ)) (m n : List ℕ) → is_same n m ≡ true → has_name names n ≡ has_name names m
has_name-same [] m n e = refl
has_name-same (x ∷ xs) m n e = rw (nat_list_eq_equiv.congr n m x e, has_name-same xs m n e) refl

-- a name that is there adds none
pub has_name-again : (names : List (List ℕ)) (m n : List ℕ) → has_name names m ≡ true → has_name names n ≡ (has_name names n || is_same n m)
has_name-again names m n there = elim (cases_Bool (is_same n m)) [
  | inl t ↦ (let here : has_name names n ≡ true = has_name-same names m n t ∙ there in rw here refl)
  | inr f ↦ rw f (sym (or_false (has_name names n)))
]
  where
    or_false : (b : Bool) → b || false ≡ b
    or_false true = refl
    or_false false = refl
