-- A binary search for a key in a list in key order.
use Rattle.std.proofs.Common.{◌≡◌, ℕ, zero, suc, ◌+◌, ◌<◌, ◌≤◌, List, [], ◌∷◌, length, get_or, map, Bool, true, false, Result, Ok, Err}
use Rattle.std.proofs.Common.{refl, sym, ap, ◌∙◌, subst, arith}
use Rattle.std.proofs.lemmas.List.{get_or_read}
use Rattle.std.specs.declared.cmp.Ordering.{Ordering}
use Rattle.std.specs.declared.cmp.Ordering.TheVariants.{Less, Equal, Greater}
use Rattle.std.specs.Ordering.{ordering_index}
use Rattle.std.specs.Cmp.{IsTotalOrder}
use Rattle.std.specs.List.{AllByRecursion, AllWithin}
use Rattle.std.specs.List.Sorted.{IsStrictlySortedBy, IsNonDecreasingBy, IsPartitionedBy, IsSearchInRange, IsBinarySearchResult}
use Rattle.std.specs.FinMap.{is_sorted}
use Rattle.std.specs.FinMap.Entries.{below_all}
use lib.Dec.{T}
use Rattle.ds_held.specs.Kept.{IsPlaceOf}
use Rattle.ds_names.proofs.Tests.{less_from, both}

few : (r : Ordering) → ordering_index r ≤ 2
few Less = omega arith
few Equal = omega arith
few Greater = omega arith

least : (r : Ordering) → ordering_index r ≤ 0 → r ≡ Less
least Less l = refl
least Equal l = absurd (omega (arith, l))
least Greater l = absurd (omega (arith, l))

most : (r : Ordering) → 2 ≤ ordering_index r → r ≡ Greater
most Less l = absurd (omega (arith, l))
most Equal l = absurd (omega (arith, l))
most Greater l = refl

pub at : {X : Type 0} (P : X → Type 0) (xs : List X) (j : ℕ) (d : X) → AllByRecursion P xs → j < length xs → P (get_or xs j d)
at P [] j d a l = absurd (omega (arith, l))
at P (x ∷ xs) zero d a l = a.0
at P (x ∷ xs) (suc j) d a l = at P xs j d a.1 (omega (arith, l))

module _ {K V X : Type 0} (R : K → K → Ordering) (total : IsTotalOrder R) (exact : (a b : K) → R a b ≡ Equal → a ≡ b) (row : X → K × V)
  where
    all_below : (k : K) (xs : List X) → T (below_all R k (map {B = K × V} row xs)) → AllByRecursion (λ (y : X). R k (row y).0 ≡ Less) xs
    all_below k [] b = tt
    all_below k (x ∷ xs) b = (less_from (R k (row x).0) (both _ _ b).0, all_below k xs (both _ _ b).1)

    -- each element comes before all that follow
    pub rising_order : (xs : List X) → T (is_sorted R (map {B = K × V} row xs)) → IsStrictlySortedBy (λ (a b : X). R (row a).0 (row b).0) xs
    unfolding IsStrictlySortedBy
    rising_order [] s = tt
    rising_order (x ∷ xs) s = (all_below (row x).0 xs (both _ _ s).0, rising_order xs (both _ _ s).1)

    -- ---- the order of keys to one that is looked for
    orders_up : (k a b : K) → R a b ≡ Less → ordering_index (R a k) ≤ ordering_index (R b k)
    orders_up k a b less = by_order (R b k) refl
      where
        by_order : (r : Ordering) → R b k ≡ r → ordering_index (R a k) ≤ ordering_index r
        by_order Less e = subst (λ r. ordering_index r ≤ 0) (sym (total.trans a b k less e)) (omega arith)
        by_order Equal e = subst (λ (c : K). ordering_index (R a c) ≤ 1) (exact b k e)
            (subst (λ r. ordering_index r ≤ 1) (sym less) (omega arith))
        by_order Greater e = few (R a k)

    orders_rise : (k : K) (xs : List X) → T (is_sorted R (map {B = K × V} row xs)) →
        IsNonDecreasingBy (λ (x : X). ordering_index (R (row x).0 k)) xs
    orders_rise k [] s i j d l w = absurd (omega (arith, w))
    orders_rise k (x ∷ xs) s zero zero d l w = omega arith
    orders_rise k (x ∷ xs) s zero (suc j) d l w =
        orders_up k (row x).0 (row (get_or xs j d)).0
        (at (λ (y : X). R (row x).0 (row y).0 ≡ Less) xs j d (all_below (row x).0 xs (both _ _ s).0) (omega (arith, w)))
    orders_rise k (x ∷ xs) s (suc i) zero d l w = absurd (omega (arith, l))
    orders_rise k (x ∷ xs) s (suc i) (suc j) d l w = orders_rise k xs (both _ _ s).1 i j d (omega (arith, l)) (omega (arith, w))

    -- what a binary search answers is a place
    pub place_from_search : (xs : List X) (k : K) (r : Result ℕ ℕ) → T (is_sorted R (map {B = K × V} row xs)) →
        IsSearchInRange r (length xs) → IsBinarySearchResult (λ (x : X). R (row x).0 k) xs r → IsPlaceOf R (λ (x : X). (row x).0) xs k r
    place_from_search xs k (Ok i) s w h = (w, h)
    place_from_search xs k (Err i) s w h = (w, h (orders_rise k xs s))

    -- what comes before an element before the sought key, and after one after it
    module _ (k : K) (xs : List X) (sorted : T (is_sorted R (map {B = K × V} row xs))) (i : ℕ) (x : X) (within : i < length xs)
        (read : x ≡ get_or xs i x) where
      pub less_upto : R (row x).0 k ≡ Less → AllWithin (λ (y : X). R (row y).0 k ≡ Less) xs 0 (i + 1)
      less_upto less j d a b =
          least (R (row (get_or xs j d)).0 k)
          (subst (λ (r : Ordering). ordering_index (R (row (get_or xs j d)).0 k) ≤ ordering_index r)
          (ap (λ (y : X). R (row y).0 k) (sym (get_or_read xs i x within read d)) ∙ less)
          (orders_rise k xs sorted j i d (omega (arith, b)) within))

      pub greater_from : R (row x).0 k ≡ Greater → AllWithin (λ (y : X). R (row y).0 k ≡ Greater) xs i (length xs)
      greater_from greater j d a b =
          most (R (row (get_or xs j d)).0 k)
          (subst (λ (r : Ordering). ordering_index r ≤ ordering_index (R (row (get_or xs j d)).0 k))
          (ap (λ (y : X). R (row y).0 k) (sym (get_or_read xs i x within read d)) ∙ greater)
          (orders_rise k xs sorted i j d a b))

-- The same where the elements that pass a test come first.
module _ {X : Type 0} (p : X → Bool) (xs : List X) (parted : IsPartitionedBy p xs) (i : ℕ) (x : X) (within : i < length xs)
    (read : x ≡ get_or xs i x) where
  pub passed_upto : p x ≡ true → AllWithin (λ (y : X). p y ≡ true) xs 0 (i + 1)
  passed_upto t j d a b = parted j i d (omega (arith, b)) within (ap p (sym (get_or_read xs i x within read d)) ∙ t)

  pub failed_from : p x ≡ false → AllWithin (λ (y : X). p y ≡ false) xs i (length xs)
  failed_from t j d a b = by_test (p (get_or xs j d)) refl
    where
      by_test : (r : Bool) → p (get_or xs j d) ≡ r → r ≡ false
      by_test true e = sym (parted i j d a b e) ∙ ap p (sym (get_or_read xs i x within read d)) ∙ t
      by_test false e = refl

-- Nothing is before the first element, or after the last.
pub none_before : {X : Type 0} (P : X → Type 0) (xs : List X) → AllWithin P xs 0 0
none_before P xs k d a b = absurd (omega (arith, b))

pub none_after : {X : Type 0} (P : X → Type 0) (xs : List X) (n : ℕ) → length xs ≤ n → AllWithin P xs n (length xs)
none_after P xs n l k d a b = absurd (omega (arith, a, b, l))
