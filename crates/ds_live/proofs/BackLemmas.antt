-- Jobs that come back.
use Rattle.std.proofs.Common.{All, ◌≡◌, Option, None, Some, IfNone, IfSome, ◌+◌, ◌<◌, ◌≤◌, ℕ, zero, suc, List, [], ◌∷◌, ◌++◌, length}
use Rattle.std.proofs.Common.{sum_by, refl, sym, ap, subst, ◌∙◌, arith}
use Rattle.std.proofs.lemmas.List.Elements.{All-cons, All-head, All-nil, All-pop, All-same, All-tail}
use Rattle.std.proofs.lemmas.List.Sums.{sum_by-cons}
use Rattle.ds_live.specs.Back.{AreBack}

-- what holds of each job holds of the one that is taken from the end
pub taken_one : {A : Type 0} (P : A → Type 0) (l m : List A) (x : A) → m ≡ l ++ x ∷ [] → All P m → P x
taken_one P l m x e all = (All-pop P m l (Some x) e all).1

module _ {J : Type 0} (back : J → J → Type 0) where
  pub same_length : (n : ℕ) (vs ws : List J) → AreBack back n vs ws → length ws ≡ length vs
  same_length n [] ws none = ap length none
  same_length n (v ∷ vs) [] none = absurd none
  same_length zero (v ∷ vs) (w ∷ ws) all = ap suc (same_length zero vs ws all.1)
  same_length (suc n) (v ∷ vs) (w ∷ ws) all = ap suc (same_length n vs ws all.1)

  -- one more job comes back after the others
  last_back : (n : ℕ) (vs ws : List J) (v w : J) → n ≤ length vs → AreBack back n vs ws → back v w →
      AreBack back n (vs ++ v ∷ []) (ws ++ w ∷ [])
  last_back zero [] [] v w few none one = (one, refl)
  last_back (suc n) [] ws v w few none one = absurd (omega arith)
  last_back zero [] (x ∷ ws) v w few none one = cc
  last_back zero (u ∷ vs) [] v w few none one = absurd none
  last_back (suc n) (u ∷ vs) [] v w few none one = absurd none
  last_back zero (u ∷ vs) (x ∷ ws) v w few all one = (all.0, last_back zero vs ws v w (omega arith) all.1 one)
  last_back (suc n) (u ∷ vs) (x ∷ ws) v w few all one = (all.0, last_back n vs ws v w (omega arith) all.1 one)

  one_back : (n : ℕ) (old vs ws new : List J) (v p w : J) → old ≡ vs ++ v ∷ [] → new ≡ ws ++ w ∷ [] → n ≤ length vs →
      AreBack back n vs ws → p ≡ v → back p w → AreBack back n old new
  one_back n old vs ws new v p w was is few all same one =
      subst (λ k. AreBack back n k new) (sym was)
      (subst (λ k. AreBack back n (vs ++ v ∷ []) k) (sym is) (last_back n vs ws v w few all (subst (λ k. back k w) same one)))

  -- where none was started
  left : (vs : List J) → AreBack back (length vs) vs vs
  left [] = refl
  left (v ∷ vs) = (refl, left vs)

  -- where the others weren't started
  pub alone_back : (n : ℕ) (old vs new : List J) (v p w : J) → n ≡ length vs → old ≡ vs ++ v ∷ [] → new ≡ vs ++ w ∷ [] → p ≡ v → back p w →
      AreBack back n old new
  alone_back n old vs new v p w all was is same one =
      subst (λ k. AreBack back k old new) (sym all) (one_back (length vs) old vs vs new v p w was is (omega arith) (left vs) same one)

  -- the same, where `r` answers how many weren't started
  pub same_length_of : (r : Option ℕ) (vs ws : List J) → IfNone r (AreBack back 0 vs ws) → IfSome r (λ n. AreBack back n vs ws) →
      length ws ≡ length vs
  same_length_of None vs ws none some = same_length 0 vs ws none
  same_length_of (Some n) vs ws none some = same_length n vs ws some

  pub one_of_none : (r : Option ℕ) (old vs ws new : List J) (v p w : J) → old ≡ vs ++ v ∷ [] → new ≡ ws ++ w ∷ [] →
      IfNone r (AreBack back 0 vs ws) → p ≡ v → back p w → IfNone r (AreBack back 0 old new)
  one_of_none None old vs ws new v p w was is all same one = one_back 0 old vs ws new v p w was is (omega arith) all same one
  one_of_none (Some n) old vs ws new v p w was is all same one = tt

  pub one_of_some : (r : Option ℕ) (old vs ws new : List J) (v p w : J) → old ≡ vs ++ v ∷ [] → new ≡ ws ++ w ∷ [] →
      IfSome r (λ n. n < length vs) →
      IfSome r (λ n. AreBack back n vs ws) → p ≡ v → back p w → IfSome r (λ n. AreBack back n old new)
  one_of_some None old vs ws new v p w was is few all same one = tt
  one_of_some (Some n) old vs ws new v p w was is few all same one = one_back n old vs ws new v p w was is (omega (arith, few)) all same one

  -- where a job that wasn't started is as good as one that came back
  pub as_good : ((v : J) → back v v) → (n : ℕ) (vs ws : List J) → AreBack back n vs ws → AreBack back 0 vs ws
  as_good same n [] ws none = none
  as_good same n (v ∷ vs) [] none = absurd none
  as_good same zero (v ∷ vs) (w ∷ ws) all = all
  as_good same (suc n) (v ∷ vs) (w ∷ ws) all = (subst (λ k. back v k) (sym all.0) (same v), as_good same n vs ws all.1)

  -- what each pair of a job and the one that came back has
  pub each_back : (P Q : J → Type 0) → ((v w : J) → P v → back v w → Q w) → (vs ws : List J) → All P vs → AreBack back 0 vs ws → All Q ws
  each_back P Q then [] ws all none = All-same Q ws [] none (All-nil Q)
  each_back P Q then (v ∷ vs) [] all none = absurd none
  each_back P Q then (v ∷ vs) (w ∷ ws) all came =
      All-cons Q w ws (then v w (All-head P v vs all) came.0) (each_back P Q then vs ws (All-tail P v vs all) came.1)

  -- a number that each job keeps
  pub same_sum : (f : J → ℕ) → ((v w : J) → back v w → f w ≡ f v) → (vs ws : List J) → AreBack back 0 vs ws → sum_by f ws ≡ sum_by f vs
  same_sum f same [] ws none = ap (sum_by f) none
  same_sum f same (v ∷ vs) [] none = absurd none
  same_sum f same (v ∷ vs) (w ∷ ws) all = let one = same v w all.0 in let rest = same_sum f same vs ws all.1 in
      sum_by-cons f w ws ∙ (omega (arith, one, rest) ∙ sym (sum_by-cons f v vs))
