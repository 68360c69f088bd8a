-- The elements after a place in a list.
use Rattle.std.proofs.Common.{◌≡◌, ℕ, zero, suc, List, [], ◌∷◌, drop, filter, Bool, true, false, cond, not, Some, refl, sym, ap, ◌∙◌, arith}
use Rattle.std.specs.List.{find, slice_get}
use Rattle.std.specs.List.Sorted.{IsPartitionPoint}
use Rattle.ds_entry.specs.Change.{ChangeRecord}
use Rattle.std.proofs.lemmas.Bool.{not-false, not-true}

-- After those that fail a test come all that pass it.
pub all_after : (p : ChangeRecord → Bool) (xs : List ChangeRecord) (i : ℕ) →
    IsPartitionPoint (λ y. not (p y) ≡ true) (λ y. not (p y) ≡ false) xs i → drop i xs ≡ filter p xs
all_after p [] zero h = refl
all_after p [] (suc i) h = refl
all_after p (x ∷ xs) zero h =
    ap (λ l. x ∷ l)
    (all_after p xs zero (λ k d l w. absurd (omega (arith, w)), λ k d l w. h.1 (suc k) d (omega (arith, l)) (omega (arith, w))))
    ∙ sym (ap (λ b. cond b (x ∷ filter p xs) (filter p xs)) (not-false (p x) (h.1 0 x (omega arith) (omega arith))))
all_after p (x ∷ xs) (suc i) h =
    all_after p xs i
    (λ k d l w. h.0 (suc k) d (omega (arith, l)) (omega (arith, w)), λ k d l w. h.1 (suc k) d (omega (arith, l)) (omega (arith, w)))
    ∙ sym (ap (λ b. cond b (x ∷ filter p xs) (filter p xs)) (not-true (p x) (h.0 0 x (omega arith) (omega arith))))

-- The first of those that pass a test.
pub first_passes : (p : ChangeRecord → Bool) (xs : List ChangeRecord) → slice_get (filter p xs) 0 ≡ find p xs
first_passes p [] = refl
first_passes p (x ∷ xs) = by_test (first_passes p xs) (p x)
  where
    by_test : slice_get (filter p xs) 0 ≡ find p xs → (b : Bool) →
        slice_get (cond b (x ∷ filter p xs) (filter p xs)) 0 ≡ cond b (Some x) (find p xs)
    by_test rest true = refl
    by_test rest false = rest
