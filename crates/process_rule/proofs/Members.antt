-- Membership in lists: what std's lemmas on `Contains` leave out.
use Rattle.std.proofs.Common.{◌≡◌, ℕ, ◌<◌, List, [], ◌∷◌, get_or, zero, suc, refl, sym, inl, inr, ◌⊎◌, arith}
use Rattle.std.specs.List.{Contains}
use Rattle.std.proofs.lemmas.List.Elements.{Contains-append_right, Contains-append_cases}

pub none_member : (x : ℕ) → Contains [] x → ⊥
none_member x h = let l : h.0 < 0 = h.1 in omega arith

pub head_member : (x : ℕ) (xs : List ℕ) → Contains (x ∷ xs) x
head_member x xs = (0, omega arith, refl)

pub tail_member : (y : ℕ) (xs : List ℕ) (x : ℕ) → Contains xs x → Contains (y ∷ xs) x
tail_member y xs x h = Contains-append_right (y ∷ []) xs x h

pub single_member : (y x : ℕ) → Contains (y ∷ []) x → x ≡ y
single_member y x h = at h.0 h.1 h.2
  where
    at : (k : ℕ) → k < 1 → get_or (y ∷ []) k x ≡ x → x ≡ y
    at zero l e = sym e
    at (suc k) l e = absurd (omega arith)

pub member_cases : (y : ℕ) (xs : List ℕ) (x : ℕ) → Contains (y ∷ xs) x → (x ≡ y) ⊎ Contains xs x
member_cases y xs x h = elim (Contains-append_cases (y ∷ []) xs x h) [ inl t ↦ inl (single_member y x t) | inr t ↦ inr t ]
