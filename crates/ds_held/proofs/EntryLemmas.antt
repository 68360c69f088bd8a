-- Entries in the order of their keys, and the items built from them.
use Rattle.std.proofs.Common.{◌≡◌, List, [], ◌∷◌, ◌++◌, map, true, false, cond, Some, refl, sym, ap, ◌∙◌, subst, inl, inr, ◌⊎◌}
use Rattle.std.proofs.lemmas.Option.{same_Some}
use Rattle.std.specs.declared.cmp.Ordering.{Ordering}
use Rattle.std.specs.declared.cmp.Ordering.TheVariants.{Less, Equal, Greater}
use Rattle.std.specs.Ordering.{is_eq, is_lt, eq_by_cmp}
use Rattle.std.specs.List.Sorted.{IsStrictlySortedBy}
use Rattle.std.specs.Cmp.{IsTotalOrder, tied_itself, Equal-is}
use Rattle.std.specs.FinMap.{find, is_sorted}
use Rattle.std.specs.FinMap.Entries.{below_all}
use lib.Dec.{T}
use Rattle.ds_entry.proofs.Members.{In}
use Rattle.ds_names.proofs.Tests.{less_from, not_both, both}
use Rattle.ds_entry.proofs.OrderedLemmas.{along, from_along}

pub In-append : {X : Type 0} (xs ys : List X) (x : X) → In x (xs ++ ys) → In x xs ⊎ In x ys
In-append [] ys x h = inr h
In-append (z ∷ xs) ys x (inl e) = inl (inl e)
In-append (z ∷ xs) ys x (inr h) = elim (In-append xs ys x h) [ inl k ↦ inl (inr k) | inr k ↦ inr k ]

pub In-left : {X : Type 0} (xs ys : List X) (x : X) → In x xs → In x (xs ++ ys)
In-left [] ys x h = absurd h
In-left (z ∷ xs) ys x (inl e) = inl e
In-left (z ∷ xs) ys x (inr h) = inr (In-left xs ys x h)

pub In-right : {X : Type 0} (xs ys : List X) (x : X) → In x ys → In x (xs ++ ys)
In-right [] ys x h = h
In-right (z ∷ xs) ys x h = inr (In-right xs ys x h)

pub In-map : {X Y : Type 0} (f : X → Y) (xs : List X) (x : X) → In x xs → In (f x) (map f xs)
In-map f [] x h = absurd h
In-map f (z ∷ xs) x (inl e) = inl (ap f e)
In-map f (z ∷ xs) x (inr h) = inr (In-map f xs x h)

pub In-from_map : {X Y : Type 0} (f : X → Y) (xs : List X) (y : Y) → In y (map f xs) → (x : X) × In x xs × (y ≡ f x)
In-from_map f [] y h = absurd h
In-from_map f (z ∷ xs) y (inl e) = (z, inl refl, e)
In-from_map f (z ∷ xs) y (inr h) = let r = In-from_map f xs y h in (r.0, inr r.1, r.2)

-- two lists in order, of which the first is below the second
pub sorted_append : {X : Type 0} (cmp : X → X → Ordering) (xs ys : List X) → IsStrictlySortedBy cmp xs → IsStrictlySortedBy cmp ys →
    ((x y : X) → In x xs → In y ys → cmp x y ≡ Less) → IsStrictlySortedBy cmp (xs ++ ys)
unfolding IsStrictlySortedBy
sorted_append cmp [] ys s t f = t
sorted_append cmp (x ∷ xs) ys s t f = (
  along (λ z. cmp x z ≡ Less) (xs ++ ys) (λ z h.
      elim (In-append xs ys z h) [ inl k ↦ from_along (λ z. cmp x z ≡ Less) xs z s.0 k | inr k ↦ f x z (inl refl) k ]),
  sorted_append cmp xs ys s.1 t (λ a b h k. f a b (inr h) k),
)

-- A key that compares equal to one above another doesn't compare equal to that other.
pub unlike : {K : Type 0} (R : K → K → Ordering) (total : IsTotalOrder R) (x q y : K) → eq_by_cmp R q y ≡ true → T (is_lt (R x y)) →
    eq_by_cmp R q x ≡ false
unlike R total x q y tied less =
    elim (R q x) as (λ r. R q x ≡ r → is_eq r ≡ false) [
      | Less ↦ λ _. refl
      | Equal ↦ λ e. absurd (not_both (R q y) tied (subst (λ r. T (is_lt r)) (sym (total.congr q x y e)) less))
      | Greater ↦ λ _. refl
    ] refl

module _ {K V : Type 0} (R : K → K → Ordering) (total : IsTotalOrder R) (exact : (a b : K) → R a b ≡ Equal → a ≡ b) where
  -- What is found at a key is with it in the list.
  pub In-from_find : (q : K) (v : V) (es : List (K × V)) → find R q es ≡ Some v → In (q, v) es
  In-from_find q v [] h = absurd (cc)
  In-from_find q v (e ∷ es) h =
      elim (eq_by_cmp R q e.0) as (λ b. eq_by_cmp R q e.0 ≡ b → cond b (Some e.1) (find R q es) ≡ Some v → In (q, v) (e ∷ es)) [
        | true ↦ λ tied s. inl (ap (λ k. (k, v)) (exact q e.0 ((Equal-is (R q e.0)).0 tied)) ∙ ap (λ w. (e.0, w)) (sym (same_Some e.1 v s)))
        | false ↦ λ _ s. inr (In-from_find q v es s)
      ] refl h

  pub below_is : (x : K) (es : List (K × V)) (e : K × V) → T (below_all R x es) → In e es → T (is_lt (R x e.0))
  below_is x [] e b h = absurd h
  below_is x (d ∷ es) e b (inl q) = subst (λ (z : K × V). T (is_lt (R x z.0))) (sym q) (both _ _ b).0
  below_is x (d ∷ es) e b (inr h) = below_is x es e (both _ _ b).1 h

  -- And what is in an ordered list is found.
  pub find-from_In : (q : K) (v : V) (es : List (K × V)) → T (is_sorted R es) → In (q, v) es → find R q es ≡ Some v
  find-from_In q v [] s h = absurd h
  find-from_In q v (e ∷ es) s (inl p) =
      let key : q ≡ e.0 = ap (λ (z : K × V). z.0) p in
      let val : v ≡ e.1 = ap (λ (z : K × V). z.1) p in
      ap (λ b. cond b (Some e.1) (find R q es)) (subst (λ k. eq_by_cmp R q k ≡ true) key (ap is_eq (tied_itself total q))) ∙
      ap (λ w. Some w) (sym val)
  find-from_In q v (e ∷ es) s (inr h) =
      ap (λ b. cond b (Some e.1) (find R q es))
      (unlike R total e.0 q q (ap is_eq (tied_itself total q)) (below_is e.0 es (q, v) (both _ _ s).0 h))
      ∙ find-from_In q v es (both _ _ s).1 h

  -- Items built from entries are ordered as the keys are.
  pub sorted_items : {X : Type 0} (cmp : X → X → Ordering) (f : K × V → X) (es : List (K × V)) → T (is_sorted R es) →
      ((a b : K × V) → In a es → In b es → cmp (f a) (f b) ≡ R a.0 b.0) → IsStrictlySortedBy cmp (map f es)
  unfolding IsStrictlySortedBy
  sorted_items cmp f [] s same = tt
  sorted_items {X} cmp f (e ∷ es) s same = (
    along (λ (y : X). cmp (f e) y ≡ Less) (map f es) (λ y h.
        (let r = In-from_map f es y h in
        ap (cmp (f e)) r.2 ∙ same e r.0 (inl refl) (inr r.1) ∙ less_from (R e.0 r.0.0) (below_is e.0 es r.0 (both _ _ s).0 r.1))),
    sorted_items cmp f es (both _ _ s).1 (λ a b h k. same a b (inr h) (inr k)),
  )

pub map_twice : {X Y Z : Type 0} (f : Y → Z) (g : X → Y) (xs : List X) → map f (map g xs) ≡ map {B = Z} (λ (x : X). f (g x)) xs
map_twice f g [] = refl
map_twice f g (x ∷ xs) = ap (λ l. f (g x) ∷ l) (map_twice f g xs)
