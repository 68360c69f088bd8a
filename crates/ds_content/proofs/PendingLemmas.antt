-- Flags of the subscriptions that something may be to be shown to.
use Rattle.std.proofs.Common.{◌≡◌, ℕ, zero, suc, ◌<◌, ◌⊎◌, Bool, true, false, ◌&&◌, ◌||◌, List, [], ◌∷◌, map, length, get_or, set, Some}
use Rattle.std.proofs.Common.{refl, ap, sym, ◌∙◌, subst, inl, inr, arith}
use Rattle.std.proofs.lemmas.List.{get_or-set_same, get_or-set_other}
use Rattle.std.specs.Prelude.{slice_get}
use Rattle.ds_watch.specs.Mask.{either}

-- ---- the flags of both
pub either_long : (a b : List Bool) → length a ≡ length b → length (either a b) ≡ length a
either_long [] b e = refl
either_long (x ∷ a) [] e = absurd (omega (arith, e))
either_long (x ∷ a) (y ∷ b) e = ap suc (either_long a b (omega (arith, e)))

either_at : (a b : List Bool) (k : ℕ) → length a ≡ length b → get_or (either a b) k false ≡ get_or a k false || get_or b k false
either_at [] [] zero e = refl
either_at [] [] (suc k) e = refl
either_at [] (y ∷ b) k e = absurd (omega (arith, e))
either_at (x ∷ a) [] k e = absurd (omega (arith, e))
either_at (x ∷ a) (y ∷ b) zero e = refl
either_at (x ∷ a) (y ∷ b) (suc k) e = either_at a b k (omega (arith, e))

or_first : (a b : Bool) → a ≡ true → a || b ≡ true
or_first true b e = refl
or_first false b e = absurd (cc)

or_second : (a b : Bool) → b ≡ true → a || b ≡ true
or_second true b e = refl
or_second false b e = e

pub either_first : (a b : List Bool) (k : ℕ) → length a ≡ length b → get_or a k false ≡ true → get_or (either a b) k false ≡ true
either_first a b k e t = either_at a b k e ∙ or_first (get_or a k false) (get_or b k false) t

pub either_second : (a b : List Bool) (k : ℕ) → length a ≡ length b → get_or b k false ≡ true → get_or (either a b) k false ≡ true
either_second a b k e t = either_at a b k e ∙ or_second (get_or a k false) (get_or b k false) t

-- ---- one flag that is set
same_or_not : (k n : ℕ) → (k ≡ n) ⊎ (k ≡ n → ⊥)
same_or_not zero zero = inl refl
same_or_not zero (suc n) = inr (λ e. omega (arith, e))
same_or_not (suc k) zero = inr (λ e. omega (arith, e))
same_or_not (suc k) (suc n) = elim (same_or_not k n) [ inl e ↦ inl (ap suc e) | inr d ↦ inr (λ e. d (omega (arith, e))) ]

-- the flag at the place is `b`, and all others are unchanged
pub set_flag : (fs : List Bool) (sub : ℕ) (b : Bool) → sub < length fs → (k : ℕ) (now : Bool) → (k ≡ sub → now ≡ true → b ≡ true) →
    ((k ≡ sub → ⊥) → now ≡ true → get_or fs k false ≡ true)
    → now ≡ true → get_or (set fs sub b) k false ≡ true
set_flag fs sub b within k now here other t = elim (same_or_not k sub) [
  | inl e ↦ subst (λ n. get_or (set fs sub b) n false ≡ true) (sym e) (get_or-set_same fs sub b false within ∙ here e t)
  | inr d ↦ get_or-set_other fs sub k b false d ∙ other d t
]

pub and_second : (a b : Bool) → a && b ≡ true → b ≡ true
and_second true b e = e
and_second false b e = absurd (cc)

-- ---- no flag is set where no element passes
pub none_at : {X : Type 0} (p : X → Bool) (hs : List X) (k : ℕ) → ((x : X) → slice_get hs k ≡ Some x → p x ≡ false) →
    get_or (map p hs) k false ≡ false
none_at p [] zero n = refl
none_at p [] (suc k) n = refl
none_at p (x ∷ hs) zero n = n x refl
none_at p (x ∷ hs) (suc k) n = none_at p hs k n
