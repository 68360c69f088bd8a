-- The place of a key in a list in key order, and what a write there does to the map that the list stands for.
use Rattle.std.proofs.Common.{◌≡◌, ℕ, zero, suc, ◌<◌, List, [], ◌∷◌, length, get_or, map, filter, true, false, cond, Bool, ◌&&◌, Some, None}
use Rattle.std.proofs.Common.{Result, Ok, Err, refl, sym, ap, ◌∙◌, subst, arith}
use Rattle.std.specs.declared.cmp.Ordering.{Ordering}
use Rattle.std.specs.declared.cmp.Ordering.TheVariants.{Less, Equal, Greater}
use Rattle.std.specs.Ordering.{is_eq, ordering_reverse}
use Rattle.std.specs.Cmp.{IsTotalOrder}
use Rattle.std.specs.FinMap.{find, put, get, len, from_entries, get-from_entries, get-entries, entries, entries_sorted, entries-insert}
use Rattle.std.specs.FinMap.{len-entries, same_entries_map, is_sorted}
use Rattle.std.specs.FinMap as finite
use Rattle.std.specs.FinMap.Entries.{below_all, by_order, is_sorted-put, same_entries}
use lib.Dec.{T}
use Rattle.ds_held.specs.Kept.{IsPlaceOf, put_at}
use Rattle.ds_names.proofs.Tests.{less_from, both}

pair : (a b : Bool) → T a → T b → T (a && b)
pair true b h k = k
pair false b h k = absurd h

-- Each element is in a row under its key.
module _ {K V X : Type 0} (R : K → K → Ordering) (total : IsTotalOrder R) (exact : (a b : K) → R a b ≡ Equal → a ≡ b) (row : X → K × V)
  where
    abbrev rows : List X → List (K × V)
    rows xs = map {B = K × V} row xs

    abbrev Rising : List X → Type 0
    Rising xs = T (is_sorted R (rows xs))

    abbrev Place : List X → K → Result ℕ ℕ → Type 0
    Place xs sought place = IsPlaceOf R (λ (x : X). (row x).0) xs sought place

    length_rows : (xs : List X) → length (rows xs) ≡ length xs
    length_rows [] = refl
    length_rows (x ∷ xs) = ap suc (length_rows xs)

    -- the entries of the map are the rows
    pub entries_are : (xs : List X) → Rising xs → entries (from_entries {R = R} (rows xs)) ≡ rows xs
    entries_are xs s = same_entries R total exact (entries (from_entries (rows xs))) (rows xs) (entries_sorted (from_entries (rows xs))) s
        (λ q. sym (get-entries (from_entries (rows xs)) q) ∙ get-from_entries total (rows xs) q)

    pub count : (xs : List X) → Rising xs → len (from_entries {R = R} (rows xs)) ≡ length xs
    count xs s = len-entries (from_entries {R = R} (rows xs)) ∙ ap length (entries_are xs s) ∙ length_rows xs

    -- ---- the place of a key
    below_at : (k : K) (xs : List X) (i : ℕ) (d : X) → T (below_all R k (rows xs)) → i < length xs → R k (row (get_or xs i d)).0 ≡ Less
    below_at k [] i d b w = absurd (omega (arith, w))
    below_at k (x ∷ xs) zero d b w = less_from (R k (row x).0) (both _ _ b).0
    below_at k (x ∷ xs) (suc i) d b w = below_at k xs i d (both _ _ b).1 (omega (arith, w))

    turned_greater : (a b : K) → R a b ≡ Less → R b a ≡ Greater
    turned_greater a b h = total.antisymm b a ∙ ap ordering_reverse h

    turned_less : (a b : K) → R a b ≡ Greater → R b a ≡ Less
    turned_less a b h = total.antisymm b a ∙ ap ordering_reverse h

    -- the key of an element further on is greater than the first
    pub later : (x : X) (xs : List X) (k : K) (i : ℕ) → Rising (x ∷ xs) → Place (x ∷ xs) k (Ok (suc i)) → R k (row x).0 ≡ Greater
    later x xs k i s p =
        let at : R (row x).0 (row (get_or xs i x)).0 ≡ Less = below_at (row x).0 xs i x (both _ _ s).0 (omega (arith, p.0)) in
        turned_greater (row x).0 k (ap (R (row x).0) (sym (exact (row (get_or xs i x)).0 k (p.1 x))) ∙ at)

    pub rest_place : (x : X) (xs : List X) (k : K) (i : ℕ) → Place (x ∷ xs) k (Ok (suc i)) → Place xs k (Ok i)
    rest_place x xs k i p = (omega (arith, p.0), λ d. p.1 d)

    pub rest_gap : (x : X) (xs : List X) (k : K) (i : ℕ) → Place (x ∷ xs) k (Err (suc i)) → Place xs k (Err i)
    rest_gap x xs k i p = (
      omega (arith, p.0),
      (
        λ n d l w. p.1.0 (suc n) d (omega (arith, l)) (omega (arith, w)),
        λ n d l w.
            p.1.1 (suc n) d (omega (arith, l)) (omega (arith, w)),
      ),
    )

    -- An element before a gap, and one after it.
    pub before_gap : (x : X) (xs : List X) (k : K) (i : ℕ) → Place (x ∷ xs) k (Err (suc i)) → R k (row x).0 ≡ Greater
    before_gap x xs k i p = turned_greater (row x).0 k (p.1.0 0 x (omega arith) (omega arith))

    pub after_gap : (x : X) (xs : List X) (k : K) → Place (x ∷ xs) k (Err zero) → R k (row x).0 ≡ Less
    after_gap x xs k p = turned_less (row x).0 k (p.1.1 0 x (omega arith) (omega arith))

    -- an element at its place
    pub at_place : (x : X) (xs : List X) (k : K) → Place (x ∷ xs) k (Ok zero) → (row x).0 ≡ k
    at_place x xs k p = exact (row x).0 k (p.1 x)

    pub tied_place : (x : X) (xs : List X) (k : K) → Place (x ∷ xs) k (Ok zero) → R k (row x).0 ≡ Equal
    tied_place x xs k p = total.antisymm k (row x).0 ∙ ap ordering_reverse (p.1 x)

    -- to write an element at its place is to put it into the map
    pub put_there : (xs : List X) (c : X) (place : Result ℕ ℕ) → Rising xs → Place xs (row c).0 place →
        rows (put_at xs place c) ≡ put R (row c).0 (row c).1 (rows xs)
    put_there [] c (Ok i) s p = absurd (omega (arith, p.0))
    put_there (x ∷ xs) c (Ok zero) s p =
        ap (λ (k : K). (k, (row c).1) ∷ rows xs) (sym (at_place x xs (row c).0 p))
        ∙ sym (ap (λ r. by_order r (row c ∷ row x ∷ rows xs) (((row x).0, (row c).1) ∷ rows xs)
        (row x ∷ put R (row c).0 (row c).1 (rows xs))) (tied_place x xs (row c).0 p))
    put_there (x ∷ xs) c (Ok (suc i)) s p =
        ap (λ l. row x ∷ l) (put_there xs c (Ok i) (both _ _ s).1 (rest_place x xs (row c).0 i p))
        ∙ sym (ap (λ r. by_order r (row c ∷ row x ∷ rows xs) (((row x).0, (row c).1) ∷ rows xs)
        (row x ∷ put R (row c).0 (row c).1 (rows xs))) (later x xs (row c).0 i s p))
    put_there [] c (Err zero) s p = refl
    put_there [] c (Err (suc i)) s p = absurd (omega (arith, p.0))
    put_there (x ∷ xs) c (Err zero) s p =
        sym (ap (λ r. by_order r (row c ∷ row x ∷ rows xs) (((row x).0, (row c).1) ∷ rows xs) (row x ∷ put R (row c).0 (row c).1 (rows xs)))
        (after_gap x xs (row c).0 p))
    put_there (x ∷ xs) c (Err (suc i)) s p =
        ap (λ l. row x ∷ l) (put_there xs c (Err i) (both _ _ s).1 (rest_gap x xs (row c).0 i p))
        ∙ sym (ap (λ r. by_order r (row c ∷ row x ∷ rows xs) (((row x).0, (row c).1) ∷ rows xs)
        (row x ∷ put R (row c).0 (row c).1 (rows xs))) (before_gap x xs (row c).0 i p))

    -- And what is found under a key is there.
    find_there : (xs : List X) (k : K) (i : ℕ) (d : X) → Rising xs → Place xs k (Ok i) → find R k (rows xs) ≡ Some (row (get_or xs i d)).1
    find_there [] k i d s p = absurd (omega (arith, p.0))
    find_there (x ∷ xs) k zero d s p = ap (λ r. cond (is_eq r) (Some (row x).1) (find R k (rows xs))) (tied_place x xs k p)
    find_there (x ∷ xs) k (suc i) d s p = ap (λ r. cond (is_eq r) (Some (row x).1) (find R k (rows xs))) (later x xs k i s p) ∙
        find_there xs k i d (both _ _ s).1 (rest_place x xs k i p)

    find_none : (xs : List X) (k : K) (i : ℕ) → Place xs k (Err i) → find R k (rows xs) ≡ None
    find_none [] k i p = refl
    find_none (x ∷ xs) k zero p =
        ap (λ r. cond (is_eq r) (Some (row x).1) (find R k (rows xs))) (after_gap x xs k p)
        ∙ find_none xs k 0
        (omega arith, (λ n d l w. absurd (omega (arith, w)), λ n d l w. p.1.1 (suc n) d (omega arith) (omega (arith, w))))
    find_none (x ∷ xs) k (suc i) p = ap (λ r. cond (is_eq r) (Some (row x).1) (find R k (rows xs))) (before_gap x xs k i p) ∙
        find_none xs k i (rest_gap x xs k i p)

    pub get_there : (xs : List X) (k : K) (i : ℕ) (d : X) → Rising xs → Place xs k (Ok i) →
        get (from_entries {R = R} (rows xs)) k ≡ Some (row (get_or xs i d)).1
    get_there xs k i d s p = get-from_entries total (rows xs) k ∙ find_there xs k i d s p

    pub get_none : (xs : List X) (k : K) (i : ℕ) → Place xs k (Err i) → get (from_entries {R = R} (rows xs)) k ≡ None
    get_none xs k i p = get-from_entries total (rows xs) k ∙ find_none xs k i p

    -- ---- writes
    module _ (xs : List X) (c : X) (place : Result ℕ ℕ) (s : Rising xs) (p : Place xs (row c).0 place) where
      pub still_rising : Rising (put_at xs place c)
      still_rising = subst (λ es. T (is_sorted R es)) (sym (put_there xs c place s p))
          (is_sorted-put R total (row c).0 (row c).1 (rows xs) s)

      pub map_with : from_entries {R = R} (rows (put_at xs place c)) ≡ finite.insert (from_entries (rows xs)) (row c).0 (row c).1
      map_with = same_entries_map _ _ (
          entries_are (put_at xs place c) still_rising ∙ put_there xs c place s p
          ∙ sym (entries-insert total (from_entries (rows xs)) (row c).0 (row c).1 ∙ ap (put R (row c).0 (row c).1) (entries_are xs s)))

    -- ---- what is dropped
    below_filter : (p : X → Bool) (k : K) (xs : List X) → T (below_all R k (rows xs)) → T (below_all R k (rows (filter p xs)))
    below_filter p k [] b = tt
    below_filter p k (x ∷ xs) b =
        elim (p x) as (λ t. T (below_all R k (rows (cond t (x ∷ filter p xs) (filter p xs))))) [
          | true ↦ pair _ _ (both _ _ b).0 (below_filter p k xs (both _ _ b).1)
          | false ↦ below_filter p k xs (both _ _ b).1
        ]

    pub rising_filter : (p : X → Bool) (xs : List X) → Rising xs → Rising (filter p xs)
    rising_filter p [] s = tt
    rising_filter p (x ∷ xs) s =
        elim (p x) as (λ t. T (is_sorted R (rows (cond t (x ∷ filter p xs) (filter p xs))))) [
          | true ↦ pair _ _ (below_filter p (row x).0 xs (both _ _ s).0) (rising_filter p xs (both _ _ s).1)
          | false ↦ rising_filter p xs (both _ _ s).1
        ]
