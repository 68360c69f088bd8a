-- A list of marks beside a list in key order: what is found under a key, and what a write at a place does.
use Rattle.std.proofs.Common.{◌≡◌, ℕ, zero, suc, ◌<◌, ◌≤◌, List, [], ◌∷◌, length, set, map, cond, true, false, Some, None, is_some, Result}
use Rattle.std.proofs.Common.{Ok, Err, refl, sym, ap, ◌∙◌, subst, arith, length-set}
use Rattle.std.proofs.lemmas.Option.{same_Some, get_or_from_slice_get}
use Rattle.std.proofs.lemmas.List.Edits.{length-insert}
use Rattle.std.specs.List.{slice_get}
use Rattle.std.specs.declared.cmp.Ordering.{Ordering}
use Rattle.std.specs.declared.cmp.Ordering.TheVariants.{Equal}
use Rattle.std.specs.Ordering.{eq_by_cmp, is_eq}
use Rattle.std.specs.Cmp.{IsTotalOrder, tied_itself}
use Rattle.std.specs.FinMap.{find, put, from_entries, get-from_entries, get-insert, same_map, is_sorted}
use Rattle.std.specs.FinMap as finite
use Rattle.std.specs.FinMap.Entries.{by_order, find-put}
use lib.Dec.{T}
use Rattle.ds_held.specs.Kept.{IsPlaceOf, put_at}
use Rattle.ds_held.proofs.PlaceLemmas.{later, rest_place, rest_gap, before_gap, after_gap, at_place, tied_place}
use Rattle.ds_index.specs.Beside.{marked_rows}
use Rattle.ds_names.proofs.Tests.{both}

-- ---- the element at an index
pub within_from : {X : Type 0} (xs : List X) (i : ℕ) (x : X) → slice_get xs i ≡ Some x → i < length xs
within_from [] i x e = absurd (cc)
within_from (y ∷ ys) zero x e = omega arith
within_from (y ∷ ys) (suc i) x e = omega (arith, within_from ys i x e)

pub set_same : {X : Type 0} (xs : List X) (i : ℕ) (x : X) → slice_get xs i ≡ Some x → set xs i x ≡ xs
set_same [] i x e = absurd (cc)
set_same (y ∷ ys) zero x e = ap (λ z. z ∷ ys) (sym (same_Some y x e))
set_same (y ∷ ys) (suc i) x e = ap (λ l. y ∷ l) (set_same ys i x e)

pub none_past : {X : Type 0} (xs : List X) (i : ℕ) → slice_get xs i ≡ None → length xs ≤ i
none_past [] i e = omega arith
none_past (x ∷ xs) zero e = absurd (cc)
none_past (x ∷ xs) (suc i) e = omega (arith, none_past xs i e)

pub set_past : {X : Type 0} (xs : List X) (i : ℕ) (x : X) → length xs ≤ i → set xs i x ≡ xs
set_past [] i x w = refl
set_past (y ∷ ys) zero x w = absurd (omega (arith, w))
set_past (y ∷ ys) (suc i) x w = ap (λ l. y ∷ l) (set_past ys i x (omega (arith, w)))

-- Each element is in a row under its key, and may have a mark.
module _ {K V X : Type 0} (R : K → K → Ordering) (total : IsTotalOrder R) (exact : (a b : K) → R a b ≡ Equal → a ≡ b) (row : X → K × V)
  where
    abbrev rows : List X → List (K × V)
    rows xs = map {B = K × V} row xs

    abbrev Rising : List X → Type 0
    Rising xs = T (is_sorted R (rows xs))

    abbrev Place : List X → K → Result ℕ ℕ → Type 0
    Place xs sought place = IsPlaceOf R (λ (x : X). (row x).0) xs sought place

    -- An element is at the place of its key.
    pub place_from_get : (xs : List X) (i : ℕ) (x : X) → slice_get xs i ≡ Some x → Place xs (row x).0 (Ok i)
    place_from_get xs i x e = (
      within_from xs i x e,
      λ d. subst (λ (y : X). R (row y).0 (row x).0 ≡ Equal) (sym (get_or_from_slice_get xs i x d e))
          (tied_itself total (row x).0),
    )

    module _ {M : Type 0} where
      abbrev marked : List X → List M → List (K × M)
      marked xs ms = marked_rows (λ (x : X). (row x).0) xs ms

      -- ---- what is found
      pub find_mark : (xs : List X) (ms : List M) (key : K) (i : ℕ) → Rising xs → length ms ≡ length xs → Place xs key (Ok i) →
          find R key (marked xs ms) ≡ slice_get ms i
      find_mark [] ms key i s e p = absurd (omega (arith, p.0))
      find_mark (x ∷ xs) [] key i s e p = absurd (omega (arith, e))
      find_mark (x ∷ xs) (m ∷ ms) key zero s e p =
          ap (λ r. cond (is_eq r) (Some m) (find R key (marked xs ms))) (tied_place R total exact row x xs key p)
      find_mark (x ∷ xs) (m ∷ ms) key (suc i) s e p =
          ap (λ r. cond (is_eq r) (Some m) (find R key (marked xs ms))) (later R total exact row x xs key i s p)
          ∙ find_mark xs ms key i (both _ _ s).1 (omega (arith, e)) (rest_place R total exact row x xs key i p)

      pub marked_too : (xs : List X) (ms : List M) (key : K) → length ms ≡ length xs →
          is_some (find R key (marked xs ms)) ≡ is_some (find R key (rows xs))
      marked_too [] ms key e = refl
      marked_too (x ∷ xs) [] key e = absurd (omega (arith, e))
      marked_too (x ∷ xs) (m ∷ ms) key e =
          elim (eq_by_cmp R key (row x).0) as (λ b.
          is_some (cond b (Some m) (find R key (marked xs ms))) ≡ is_some (cond b (Some (row x).1) (find R key (rows xs)))) [
            | true ↦ refl
            | false ↦ marked_too xs ms key (omega (arith, e))
          ]

      -- ---- a mark at its place
      marked_put : (xs : List X) (ms : List M) (c : X) (m : M) (place : Result ℕ ℕ) → Rising xs → length ms ≡ length xs →
          Place xs (row c).0 place → marked (put_at xs place c) (put_at ms place m) ≡ put R (row c).0 m (marked xs ms)
      marked_put [] ms c m (Ok i) s e p = absurd (omega (arith, p.0))
      marked_put [] [] c m (Err zero) s e p = refl
      marked_put [] (n ∷ ns) c m (Err zero) s e p = absurd (omega (arith, e))
      marked_put [] ms c m (Err (suc i)) s e p = absurd (omega (arith, p.0))
      marked_put (x ∷ xs) [] c m place s e p = absurd (omega (arith, e))
      marked_put (x ∷ xs) (n ∷ ns) c m (Ok zero) s e p =
          ap (λ (k : K). (k, m) ∷ marked xs ns) (sym (at_place R total exact row x xs (row c).0 p))
          ∙ sym (ap (λ r. by_order r (((row c).0, m) ∷ ((row x).0, n) ∷ marked xs ns) (((row x).0, m) ∷ marked xs ns)
          (((row x).0, n) ∷ put R (row c).0 m (marked xs ns))) (tied_place R total exact row x xs (row c).0 p))
      marked_put (x ∷ xs) (n ∷ ns) c m (Ok (suc i)) s e p =
          ap (λ l. ((row x).0, n) ∷ l) (marked_put xs ns c m (Ok i) (both _ _ s).1 (omega (arith, e))
          (rest_place R total exact row x xs (row c).0 i p))
          ∙ sym (ap (λ r. by_order r (((row c).0, m) ∷ ((row x).0, n) ∷ marked xs ns) (((row x).0, m) ∷ marked xs ns)
          (((row x).0, n) ∷ put R (row c).0 m (marked xs ns))) (later R total exact row x xs (row c).0 i s p))
      marked_put (x ∷ xs) (n ∷ ns) c m (Err zero) s e p =
          sym (ap (λ r. by_order r (((row c).0, m) ∷ ((row x).0, n) ∷ marked xs ns) (((row x).0, m) ∷ marked xs ns)
          (((row x).0, n) ∷ put R (row c).0 m (marked xs ns))) (after_gap R total exact row x xs (row c).0 p))
      marked_put (x ∷ xs) (n ∷ ns) c m (Err (suc i)) s e p =
          ap (λ l. ((row x).0, n) ∷ l) (marked_put xs ns c m (Err i) (both _ _ s).1 (omega (arith, e))
          (rest_gap R total exact row x xs (row c).0 i p))
          ∙ sym (ap (λ r. by_order r (((row c).0, m) ∷ ((row x).0, n) ∷ marked xs ns) (((row x).0, m) ∷ marked xs ns)
          (((row x).0, n) ∷ put R (row c).0 m (marked xs ns))) (before_gap R total exact row x xs (row c).0 i p))

      from_put : (es : List (K × M)) (k : K) (m : M) → from_entries {R = R} (put R k m es) ≡ finite.insert (from_entries es) k m
      from_put es k m = same_map total exact _ _ (λ q.
          get-from_entries total (put R k m es) q ∙ find-put R total q k m es
          ∙ sym (get-insert total (from_entries es) k m q ∙ ap (cond (eq_by_cmp R q k) (Some m)) (get-from_entries total es q)))

      -- to write an element and a mark at one place is to put the mark under the element's key
      pub marks_put : (xs : List X) (ms : List M) (c : X) (m : M) (place : Result ℕ ℕ) → Rising xs → length ms ≡ length xs →
          Place xs (row c).0 place →
          from_entries {R = R} (marked (put_at xs place c) (put_at ms place m)) ≡ finite.insert (from_entries (marked xs ms)) (row c).0 m
      marks_put xs ms c m place s e p = ap (λ es. from_entries {R = R} es) (marked_put xs ms c m place s e p) ∙
          from_put (marked xs ms) (row c).0 m

      pub each_put : (xs : List X) (ms : List M) (c : X) (m : M) (place : Result ℕ ℕ) → length ms ≡ length xs → Place xs (row c).0 place →
          length (put_at ms place m) ≡ length (put_at xs place c)
      each_put xs ms c m (Ok i) e p = omega (arith, length-set ms i m, length-set xs i c, e)
      each_put xs ms c m (Err i) e p =
          let within : i ≤ length ms = omega (arith, e, p.0) in
          omega (arith, length-insert ms i m within, length-insert xs i c p.0, e)

      -- ---- another mark at an index
      pub marks_at : (xs : List X) (ms : List M) (i : ℕ) (c : X) (m : M) → Rising xs → length ms ≡ length xs → slice_get xs i ≡ Some c →
          from_entries {R = R} (marked xs (set ms i m)) ≡ finite.insert (from_entries (marked xs ms)) (row c).0 m
      marks_at xs ms i c m s e q = ap (λ l. from_entries {R = R} (marked l (set ms i m))) (sym (set_same xs i c q)) ∙
          marks_put xs ms c m (Ok i) s e (place_from_get xs i c q)

      pub marks_past : (xs : List X) (ms : List M) (i : ℕ) (m : M) → length ms ≡ length xs → slice_get xs i ≡ None →
          from_entries {R = R} (marked xs (set ms i m)) ≡ from_entries (marked xs ms)
      marks_past xs ms i m e q = ap (λ l. from_entries {R = R} (marked xs l)) (set_past ms i m (omega (arith, none_past xs i q, e)))
