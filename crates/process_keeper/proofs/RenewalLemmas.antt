-- Other labels while processes run.
use Rattle.std.proofs.Common.{◌≡◌, ◌<◌, ◌+◌, ◌&&◌, ℕ, zero, suc, Bool, true, false, not, is_some, List, [], ◌∷◌, Option, Some, None, cond}
use Rattle.std.proofs.Common.{length, get_or, drop, refl, sym, ap, ◌∙◌, subst, arith}
use Rattle.std.specs.List.{list_any, slice_get}
use Rattle.std.proofs.lemmas.Bool.{true≢false}
use Rattle.std.proofs.lemmas.List.{drop_more}
use Rattle.std.proofs.lemmas.Option.{same_Some, none-some}
use Rattle.process_keeper.specs.Renewal.{first_forgotten, is_forgotten, is_source}
use Rattle.process_keeper.specs.declared.instance.Instance.{Instance}
use Rattle.process_keeper.specs.declared.lifecycle.Lifecycle.{Lifecycle}

-- ---- the walk
pub forgotten_step : (sources : List (Option ℕ)) (ps : List Lifecycle) (k : ℕ) (p : Lifecycle) → k < length ps → p ≡ get_or ps k p →
    first_forgotten sources k (drop k ps) ≡ cond (is_forgotten sources k p) (Some k) (first_forgotten sources (k + 1) (drop (k + 1) ps))
forgotten_step sources ps k p l here = rw (drop_more ps k p l, ← here) refl

-- ---- a label that isn't forgotten
pub none_forgotten : (sources : List (Option ℕ)) (j : ℕ) (labels : List Lifecycle) (k : ℕ) (p : Lifecycle) →
    first_forgotten sources j labels ≡ None → slice_get labels k ≡ Some p → is_forgotten sources (j + k) p ≡ false
none_forgotten sources j [] k p h e = absurd (none-some p e)
none_forgotten sources j (q ∷ labels) zero p h e =
    let here : is_forgotten sources j q ≡ false = by_test (is_forgotten sources j q) h in
    let same : j ≡ j + 0 = omega arith in
    subst (λ (i : ℕ). is_forgotten sources i p ≡ false) same
    (subst (λ (x : Lifecycle). is_forgotten sources j x ≡ false) (same_Some q p e) here)
  where
    by_test : (b : Bool) → cond b (Some j) (first_forgotten sources (j + 1) labels) ≡ None → b ≡ false
    by_test true n = absurd (none-some j (sym n))
    by_test false n = refl
none_forgotten sources j (q ∷ labels) (suc k) p h e =
    let same : j + 1 + k ≡ j + suc k = omega arith in
    subst (λ (i : ℕ). is_forgotten sources i p ≡ false) same
    (none_forgotten sources (j + 1) labels k p (by_test (is_forgotten sources j q) h) e)
  where
    by_test : (b : Bool) → cond b (Some j) (first_forgotten sources (j + 1) labels) ≡ None → first_forgotten sources (j + 1) labels ≡ None
    by_test true n = absurd (none-some j (sym n))
    by_test false n = n

-- a label with an instance is a source, then
pub busy_is_source : (sources : List (Option ℕ)) (k : ℕ) (p : Lifecycle) (i : Instance) → is_forgotten sources k p ≡ false →
    p.instance ≡ Some i →
    list_any (is_source k) sources ≡ true
busy_is_source sources k p i h e = by_tests p.is_clean (list_any (is_source k) sources) h
  where
    by_instance : (o : Option Instance) → o ≡ Some i → (b : Bool) → not (not (is_some o) && b) ≡ true
    by_instance None e b = absurd (none-some i e)
    by_instance (Some x) e b = refl

    by_tests : (c b : Bool) → not (c && (not (is_some p.instance) && not (is_some p.pending))) && not b ≡ false → b ≡ true
    by_tests c true n = refl
    by_tests true false n = absurd (true≢false
        (sym (ap (λ (x : Bool). x && true) (by_instance p.instance e (not (is_some p.pending)))) ∙ n))
    by_tests false false n = absurd (true≢false n)
