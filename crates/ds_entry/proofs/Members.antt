-- Membership in lists: what std's lemmas on `Contains` leave out.
use Rattle.std.proofs.Common.{◌≡◌, ℕ, ◌<◌, Bool, true, false, cond, List, [], ◌∷◌, get_or, map, take, drop, ◌||◌, zero, suc, refl, sym, ap}
use Rattle.std.proofs.Common.{◌∙◌, subst, inl, inr, ◌⊎◌, arith}
use Rattle.std.specs.List.{Contains, filter, flat_map, list_any}
use Rattle.std.proofs.lemmas.List.{take-append-drop}
use Rattle.std.proofs.lemmas.List.Elements.{Contains-append_left, Contains-append_right, Contains-append_cases}

-- Membership by recursion, for inductions.
abbrev pub In : {X : Type 0} → X → List X → Type 0
In x [] = ⊥
In x (y ∷ ys) = (x ≡ y) ⊎ In x ys

pub Contains-nil : {X : Type 0} (x : X) → Contains [] x → ⊥
Contains-nil x h = let l : h.0 < 0 = h.1 in omega arith

pub Contains-head : {X : Type 0} (x : X) (xs : List X) → Contains (x ∷ xs) x
Contains-head x xs = (0, omega arith, refl)

pub Contains-tail : {X : Type 0} (y : X) (xs : List X) (x : X) → Contains xs x → Contains (y ∷ xs) x
Contains-tail y xs x h = Contains-append_right (y ∷ []) xs x h

pub Contains-single : {X : Type 0} (y x : X) → Contains (y ∷ []) x → x ≡ y
Contains-single y x h = at h.0 h.1 h.2
  where
    at : (k : ℕ) → k < 1 → get_or (y ∷ []) k x ≡ x → x ≡ y
    at zero l e = sym e
    at (suc k) l e = absurd (omega arith)

pub Contains-cons : {X : Type 0} (y : X) (xs : List X) (x : X) → Contains (y ∷ xs) x → (x ≡ y) ⊎ Contains xs x
Contains-cons y xs x h = elim (Contains-append_cases (y ∷ []) xs x h) [ inl t ↦ inl (Contains-single y x t) | inr t ↦ inr t ]

pub In-from_Contains : {X : Type 0} (x : X) (xs : List X) → Contains xs x → In x xs
In-from_Contains x [] h = Contains-nil x h
In-from_Contains x (y ∷ ys) h = elim (Contains-cons y ys x h) [ inl e ↦ inl e | inr t ↦ inr (In-from_Contains x ys t) ]

pub Contains-from_In : {X : Type 0} (x : X) (xs : List X) → In x xs → Contains xs x
Contains-from_In x [] h = absurd h
Contains-from_In x (y ∷ ys) (inl e) = subst (λ z. Contains (z ∷ ys) x) e (Contains-head x ys)
Contains-from_In x (y ∷ ys) (inr t) = Contains-tail y ys x (Contains-from_In x ys t)

In-filter : {X : Type 0} (p : X → Bool) (xs : List X) (x : X) → In x xs → p x ≡ true → In x (filter p xs)
In-filter p [] x h t = h
In-filter p (y ∷ ys) x (inl e) t = let q : p y ≡ true = ap p (sym e) ∙ t in rw q (inl e)
In-filter p (y ∷ ys) x (inr h) t =
    elim (p y) as (λ b. In x (cond b (y ∷ filter p ys) (filter p ys))) [ true ↦ inr (In-filter p ys x h t) | false ↦ In-filter p ys x h t ]

In-from_filter : {X : Type 0} (p : X → Bool) (xs : List X) (x : X) → In x (filter p xs) → In x xs × (p x ≡ true)
In-from_filter p [] x h = absurd h
In-from_filter p (y ∷ ys) x h = by_test (p y) refl h (In-from_filter p ys x)
  where
    by_test : (b : Bool) → p y ≡ b → In x (cond b (y ∷ filter p ys) (filter p ys)) → (In x (filter p ys) → In x ys × (p x ≡ true)) →
        In x (y ∷ ys) × (p x ≡ true)
    by_test true e (inl q) rest = (inl q, ap p q ∙ e)
    by_test true e (inr t) rest = (inr (rest t).0, (rest t).1)
    by_test false e t rest = (inr (rest t).0, (rest t).1)

-- ---- filter
pub Contains-filter : {X : Type 0} (p : X → Bool) (xs : List X) (x : X) → Contains xs x → p x ≡ true → Contains (filter p xs) x
Contains-filter p xs x h t = Contains-from_In x (filter p xs) (In-filter p xs x (In-from_Contains x xs h) t)

pub Contains-from_filter : {X : Type 0} (p : X → Bool) (xs : List X) (x : X) → Contains (filter p xs) x → Contains xs x × (p x ≡ true)
Contains-from_filter p xs x h =
    let t = In-from_filter p xs x (In-from_Contains x (filter p xs) h) in
    (Contains-from_In x xs t.0, t.1)

-- ---- map and flat_map
pub Contains-map : {X A : Type 0} (f : X → A) (xs : List X) (x : X) → Contains xs x → Contains (map f xs) (f x)
Contains-map {X} f xs x h = at xs (In-from_Contains x xs h)
  where
    at : (ys : List X) → In x ys → Contains (map f ys) (f x)
    at [] h = absurd h
    at (y ∷ ys) (inl e) = subst (λ z. Contains (f y ∷ map f ys) z) (sym (ap f e)) (Contains-head (f y) (map f ys))
    at (y ∷ ys) (inr t) = Contains-tail (f y) (map f ys) (f x) (at ys t)

pub Contains-from_map : {X A : Type 0} (f : X → A) (xs : List X) (a : A) → Contains (map f xs) a → (x : X) × Contains xs x × (f x ≡ a)
Contains-from_map f [] a h = absurd (Contains-nil a h)
Contains-from_map {X} f (y ∷ ys) a h = at (Contains-cons (f y) (map f ys) a h) (Contains-from_map f ys a)
  where
    at : (a ≡ f y) ⊎ Contains (map f ys) a → (Contains (map f ys) a → (x : X) × Contains ys x × (f x ≡ a)) →
        (x : X) × Contains (y ∷ ys) x × (f x ≡ a)
    at (inl e) rest = (y, Contains-head y ys, sym e)
    at (inr k) rest = let r = rest k in (r.0, Contains-tail y ys r.0 r.1, r.2)

pub Contains-flat_map : {X A : Type 0} (f : X → List A) (xs : List X) (x : X) (a : A) → Contains xs x → Contains (f x) a →
    Contains (flat_map f xs) a
Contains-flat_map {X} f xs x a h k = at xs (In-from_Contains x xs h)
  where
    at : (ys : List X) → In x ys → Contains (flat_map f ys) a
    at [] h = absurd h
    at (y ∷ ys) (inl e) = Contains-append_left (f y) (flat_map f ys) a (subst (λ (z : X). Contains (f z) a) e k)
    at (y ∷ ys) (inr t) = Contains-append_right (f y) (flat_map f ys) a (at ys t)

pub Contains-from_flat_map : {X A : Type 0} (f : X → List A) (xs : List X) (a : A) → Contains (flat_map f xs) a →
    (x : X) × Contains xs x × Contains (f x) a
Contains-from_flat_map f [] a h = absurd (Contains-nil a h)
Contains-from_flat_map {X} f (y ∷ ys) a h = at (Contains-append_cases (f y) (flat_map f ys) a h) (Contains-from_flat_map f ys a)
  where
    at : Contains (f y) a ⊎ Contains (flat_map f ys) a → (Contains (flat_map f ys) a → (x : X) × Contains ys x × Contains (f x) a) →
        (x : X) × Contains (y ∷ ys) x × Contains (f x) a
    at (inl k) rest = (y, Contains-head y ys, k)
    at (inr k) rest = let r = rest k in (r.0, Contains-tail y ys r.0 r.1, r.2)

-- ---- take and drop
pub Contains-from_take : {X : Type 0} (n : ℕ) (xs : List X) (x : X) → Contains (take n xs) x → Contains xs x
Contains-from_take n xs x h = subst (λ l. Contains l x) (take-append-drop n xs) (Contains-append_left (take n xs) (drop n xs) x h)

pub Contains-from_drop : {X : Type 0} (n : ℕ) (xs : List X) (x : X) → Contains (drop n xs) x → Contains xs x
Contains-from_drop n xs x h = subst (λ l. Contains l x) (take-append-drop n xs) (Contains-append_right (take n xs) (drop n xs) x h)

-- ---- list_any
pub list_any-from_Contains : {X : Type 0} (p : X → Bool) (xs : List X) (x : X) → Contains xs x → p x ≡ true → list_any p xs ≡ true
list_any-from_Contains {X} p xs x h e = at xs (In-from_Contains x xs h)
  where
    or_left : (a b : Bool) → a ≡ true → a || b ≡ true
    or_left true b e = refl
    or_left false b e = cc

    or_right : (a b : Bool) → b ≡ true → a || b ≡ true
    or_right true b e = refl
    or_right false b e = e

    at : (ys : List X) → In x ys → list_any p ys ≡ true
    at [] h = absurd h
    at (y ∷ ys) (inl q) = or_left (p y) (list_any p ys) (ap p (sym q) ∙ e)
    at (y ∷ ys) (inr t) = or_right (p y) (list_any p ys) (at ys t)

pub Contains-from_list_any : {X : Type 0} (p : X → Bool) (xs : List X) → list_any p xs ≡ true → (x : X) × Contains xs x × (p x ≡ true)
Contains-from_list_any p [] h = cc
Contains-from_list_any {X} p (y ∷ ys) h = by_test (p y) refl h (Contains-from_list_any p ys)
  where
    by_test : (b : Bool) → p y ≡ b → b || list_any p ys ≡ true → (list_any p ys ≡ true → (x : X) × Contains ys x × (p x ≡ true)) →
        (x : X) × Contains (y ∷ ys) x × (p x ≡ true)
    by_test true e h rest = (y, Contains-head y ys, e)
    by_test false e h rest = let r = rest h in (r.0, Contains-tail y ys r.0 r.1, r.2)

-- What no element passes.
pub none_pass : {X : Type 0} (p : X → Bool) (xs : List X) (x : X) → list_any p xs ≡ false → Contains xs x → p x ≡ false
none_pass p xs x e h = by_test (p x) refl
  where
    by_test : (b : Bool) → p x ≡ b → b ≡ false
    by_test true q = let t : true ≡ false = sym (list_any-from_Contains p xs x h q) ∙ e in absurd (cc)
    by_test false q = refl
