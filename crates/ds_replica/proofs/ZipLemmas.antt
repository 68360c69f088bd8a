-- Lists whose items belong together, place by place.
use Rattle.std.proofs.Common.{◌≡◌, ℕ, zero, suc, List, [], ◌∷◌, ◌++◌, Some, None, refl, ap, sym, subst, inl, inr}
use Rattle.std.specs.List.{AllZip, Contains, slice_get, slice_set}
use Rattle.ds_entry.proofs.Members.{Contains-nil, Contains-cons}

module _ {X Y : Type 0} (R : X → Y → Type 0) where
  pub AllZip-last : (xs : List X) (ys : List Y) (x : X) (y : Y) → AllZip R xs ys → R x y → AllZip R (xs ++ x ∷ []) (ys ++ y ∷ [])
  AllZip-last [] [] x y h k = (k, tt)
  AllZip-last [] (b ∷ ys) x y h k = absurd h
  AllZip-last (a ∷ xs) [] x y h k = absurd h
  AllZip-last (a ∷ xs) (b ∷ ys) x y h k = (h.0, AllZip-last xs ys x y h.1 k)

  -- what belongs to an item of the second list
  pub AllZip-at : (xs : List X) (ys : List Y) (j : ℕ) (y : Y) → AllZip R xs ys → slice_get ys j ≡ Some y →
      (x : X) × (slice_get xs j ≡ Some x) × R x y
  AllZip-at [] [] j y h e = cc
  AllZip-at [] (b ∷ ys) j y h e = absurd h
  AllZip-at (a ∷ xs) [] j y h e = absurd h
  AllZip-at (a ∷ xs) (b ∷ ys) zero y h e = let q : b ≡ y = cc in (a, refl, subst (λ z. R a z) q h.0)
  AllZip-at (a ∷ xs) (b ∷ ys) (suc j) y h e = AllZip-at xs ys j y h.1 e

  -- and what belongs to one of the first
  pub AllZip-at_left : (xs : List X) (ys : List Y) (j : ℕ) (x : X) → AllZip R xs ys → slice_get xs j ≡ Some x →
      (y : Y) × (slice_get ys j ≡ Some y) × R x y
  AllZip-at_left [] [] j x h e = cc
  AllZip-at_left [] (b ∷ ys) j x h e = absurd h
  AllZip-at_left (a ∷ xs) [] j x h e = absurd h
  AllZip-at_left (a ∷ xs) (b ∷ ys) zero x h e = let q : a ≡ x = cc in (b, refl, subst (λ z. R z b) q h.0)
  AllZip-at_left (a ∷ xs) (b ∷ ys) (suc j) x h e = AllZip-at_left xs ys j x h.1 e

  pub AllZip-none : (xs : List X) (ys : List Y) (j : ℕ) → AllZip R xs ys → slice_get xs j ≡ None → slice_get ys j ≡ None
  AllZip-none [] [] j h e = refl
  AllZip-none [] (b ∷ ys) j h e = absurd h
  AllZip-none (a ∷ xs) [] j h e = absurd h
  AllZip-none (a ∷ xs) (b ∷ ys) zero h e = cc
  AllZip-none (a ∷ xs) (b ∷ ys) (suc j) h e = AllZip-none xs ys j h.1 e

  pub AllZip-both_set : (xs : List X) (ys : List Y) (j : ℕ) (x : X) (y : Y) → AllZip R xs ys → R x y →
      AllZip R (slice_set xs j x) (slice_set ys j y)
  AllZip-both_set [] [] j x y h k = h
  AllZip-both_set [] (b ∷ ys) j x y h k = absurd h
  AllZip-both_set (a ∷ xs) [] j x y h k = absurd h
  AllZip-both_set (a ∷ xs) (b ∷ ys) zero x y h k = (k, h.1)
  AllZip-both_set (a ∷ xs) (b ∷ ys) (suc j) x y h k = (h.0, AllZip-both_set xs ys j x y h.1 k)

pub AllZip-weaker : {X Y : Type 0} (R S : X → Y → Type 0) → ((x : X) (y : Y) → R x y → S x y) → (xs : List X) (ys : List Y) →
    AllZip R xs ys → AllZip S xs ys
AllZip-weaker R S f [] [] h = h
AllZip-weaker R S f [] (y ∷ ys) h = h
AllZip-weaker R S f (x ∷ xs) [] h = h
AllZip-weaker R S f (x ∷ xs) (y ∷ ys) h = (f x y h.0, AllZip-weaker R S f xs ys h.1)

-- the index of an element of a list
pub Contains-at : {X : Type 0} (xs : List X) (x : X) → Contains xs x → (k : ℕ) × (slice_get xs k ≡ Some x)
Contains-at [] x h = absurd (Contains-nil x h)
Contains-at (y ∷ ys) x h = elim (Contains-cons y ys x h) [
  | inl e ↦ (0, ap Some (sym e))
  | inr k ↦ (let l = Contains-at ys x k in (suc l.0, l.1))
]
