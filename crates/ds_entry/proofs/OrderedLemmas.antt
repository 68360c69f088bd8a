-- Strictly ordered lists: elements that compare equal are equal, and two such lists with the same members are equal.
use Rattle.std.proofs.Common.{◌≡◌, List, [], ◌∷◌, refl, sym, ◌∙◌, subst, inl, inr, ◌⊎◌}
use Rattle.std.specs.declared.cmp.Ordering.{Ordering}
use Rattle.std.specs.declared.cmp.Ordering.TheVariants.{Less, Equal}
use Rattle.std.specs.Cmp.{IsTotalOrder}
use Rattle.std.specs.List.{Contains, AllByRecursion}
use Rattle.std.specs.List.Sorted.{IsStrictlySortedBy}
use Rattle.std.proofs.lemmas.Cmp.{tied_itself, tied_back}
use Rattle.ds_entry.proofs.Members.{In, In-from_Contains, Contains-from_In}

-- What holds of each element holds along the list.
pub along : {X : Type 0} (P : X → Type 0) (xs : List X) → ((x : X) → In x xs → P x) → AllByRecursion P xs
along P [] f = tt
along P (x ∷ xs) f = (f x (inl refl), along P xs (λ y h. f y (inr h)))

pub from_along : {X : Type 0} (P : X → Type 0) (xs : List X) (x : X) → AllByRecursion P xs → In x xs → P x
from_along P [] x a h = absurd h
from_along P (y ∷ ys) x a (inl e) = subst P (sym e) a.0
from_along P (y ∷ ys) x a (inr h) = from_along P ys x a.1 h

module _ {X : Type 0} (cmp : X → X → Ordering) (total : IsTotalOrder cmp) where
  not_less : (x y : X) → cmp x y ≡ Equal → cmp x y ≡ Less → ⊥
  not_less x y e h = let v : Less ≡ Equal = sym h ∙ e in cc

  below : (x : X) (xs : List X) (d : X) → AllByRecursion (λ y. cmp x y ≡ Less) xs → In d xs → cmp x d ≡ Less
  below x xs d a h = from_along (λ (y : X). cmp x y ≡ Less) xs d a h

  In-once : (xs : List X) (c d : X) → IsStrictlySortedBy cmp xs → In c xs → In d xs → cmp c d ≡ Equal → c ≡ d
  unfolding IsStrictlySortedBy
  In-once [] c d s h k e = absurd h
  In-once (x ∷ xs) c d s (inl h) (inl k) e = h ∙ sym k
  In-once (x ∷ xs) c d s (inl h) (inr k) e = absurd (not_less x d (subst (λ (z : X). cmp z d ≡ Equal) h e) (below x xs d s.0 k))
  In-once (x ∷ xs) c d s (inr h) (inl k) e =
      absurd (not_less x c (tied_back total c x (subst (λ (z : X). cmp c z ≡ Equal) k e)) (below x xs c s.0 h))
  In-once (x ∷ xs) c d s (inr h) (inr k) e = In-once xs c d s.1 h k e

  -- Two members that compare equal are equal.
  pub tied_once : (xs : List X) (c d : X) → IsStrictlySortedBy cmp xs → Contains xs c → Contains xs d → cmp c d ≡ Equal → c ≡ d
  tied_once xs c d s h k e = In-once xs c d s (In-from_Contains c xs h) (In-from_Contains d xs k) e

  -- Two such lists with the same members are equal.
  same_list : (xs ys : List X) → IsStrictlySortedBy cmp xs → IsStrictlySortedBy cmp ys → ((x : X) → In x xs → In x ys) →
      ((x : X) → In x ys → In x xs) → xs ≡ ys
  unfolding IsStrictlySortedBy
  same_list [] [] s t f g = refl
  same_list [] (y ∷ ys) s t f g = absurd (g y (inl refl))
  same_list (x ∷ xs) [] s t f g = absurd (f x (inl refl))
  same_list (x ∷ xs) (y ∷ ys) s t f g =
      let e : x ≡ y = heads (f x (inl refl)) (g y (inl refl)) in
      let r : xs ≡ ys = same_list xs ys s.1 t.1 (λ z h. in_rest x y z ys e (below x xs z s.0 h) (f z (inr h)))
      (λ z h. in_rest y x z xs (sym e) (below y ys z t.0 h) (g z (inr h))) in
      cc
    where
      heads : In x (y ∷ ys) → In y (x ∷ xs) → x ≡ y
      heads (inl e) k = e
      heads (inr h) (inl e) = sym e
      heads (inr h) (inr k) = absurd (not_less x x (tied_itself total x) (total.trans x y x (below x xs y s.0 k) (below y ys x t.0 h)))

      in_rest : (v w z : X) (zs : List X) → v ≡ w → cmp v z ≡ Less → (z ≡ w) ⊎ In z zs → In z zs
      in_rest v w z zs e l (inl q) = absurd (not_less v z (subst (λ (u : X). cmp v u ≡ Equal) (e ∙ sym q) (tied_itself total v)) l)
      in_rest v w z zs e l (inr h) = h

  pub same_members : (xs ys : List X) → IsStrictlySortedBy cmp xs → IsStrictlySortedBy cmp ys → ((x : X) → Contains xs x → Contains ys x) →
      ((x : X) → Contains ys x → Contains xs x) → xs ≡ ys
  same_members xs ys s t f g =
      same_list xs ys s t (λ x h. In-from_Contains x ys (f x (Contains-from_In x xs h)))
      (λ x h. In-from_Contains x xs (g x (Contains-from_In x ys h)))
