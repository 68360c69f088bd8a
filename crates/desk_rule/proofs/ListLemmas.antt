-- Prefixes of lists, elements at an index, facts of every element, and sums.
use Rattle.std.proofs.Common.{◌≡◌, ◌⊎◌, ℕ, zero, suc, ◌+◌, ◌≤◌, ◌<◌, true, All, List, [], ◌∷◌, ◌++◌, length, set, get_or, Option, Some}
use Rattle.std.proofs.Common.{None}
use Rattle.std.proofs.Common.{refl, ap, sym, ◌∙◌, inl, inr, subst, arith, add-one, append_assoc}
use Rattle.std.specs.Prelude.{is_some}
use Rattle.std.specs.List.{AllByRecursion}
use mathlib.Core.Logic.{dite}
use native.Mathlib.Decide.{ℕ_discrete}
use mathlib.Core.Option.{some, some-injective, some-ne-none}
use mathlib.Core.List.{IsPrefix}
use lib.ListN.{get_elem?}
use Rattle.atomic_table.proofs.Lists.{at_longer}
use Rattle.desk_rule.specs.History.{total_of}

module _ {A : Type 0} where
  pub prefix_nil : (xs : List A) → IsPrefix [] xs
  prefix_nil xs = (xs, refl)

  pub prefix_refl : (xs : List A) → IsPrefix xs xs
  prefix_refl [] = ([], refl)
  prefix_refl (x ∷ xs) = let p = prefix_refl xs in (p.0, ap (λ ys. x ∷ ys) p.1)

  pub prefix_trans : (xs ys zs : List A) → IsPrefix xs ys → IsPrefix ys zs → IsPrefix xs zs
  prefix_trans xs ys zs p q = (p.0 ++ q.0, sym (append_assoc xs p.0 q.0) ∙ (ap (λ ws. ws ++ q.0) p.1 ∙ q.1))

  pub prefix_append : (xs ys zs : List A) → IsPrefix xs ys → IsPrefix xs (ys ++ zs)
  prefix_append xs ys zs p = (p.0 ++ zs, sym (append_assoc xs p.0 zs) ∙ ap (λ ws. ws ++ zs) p.1)

  -- of two prefixes of a list, one is a prefix of the other
  pub prefixes_agree : (xs ys zs : List A) → IsPrefix xs zs → IsPrefix ys zs → IsPrefix xs ys ⊎ IsPrefix ys xs
  prefixes_agree [] ys zs p q = inl (prefix_nil ys)
  prefixes_agree (x ∷ xs) [] zs p q = inr (prefix_nil (x ∷ xs))
  prefixes_agree (x ∷ xs) (y ∷ ys) [] p q = absurd (cc)
  prefixes_agree (x ∷ xs) (y ∷ ys) (z ∷ zs) p q =
      let same : x ≡ y = cc in
      let tail_p : (xs ++ p.0) ≡ zs = cc in
      let tail_q : (ys ++ q.0) ≡ zs = cc in
      elim (prefixes_agree xs ys zs (p.0, tail_p) (q.0, tail_q))
      [ inl r ↦ inl (r.0, (λ i. same i ∷ r.1 i)) | inr r ↦ inr (r.0, (λ i. sym same i ∷ r.1 i)) ]

  pub at_inside : (l : List A) (a : A) (j : ℕ) → get_elem? l j ≡ some a → j < length l
  at_inside [] a j e = absurd (some-ne-none a (sym e))
  at_inside (x ∷ xs) a zero e = omega arith
  at_inside (x ∷ xs) a (suc j) e = let below = at_inside xs a j e in omega arith

  pub at_prefix : (l m : List A) (j : ℕ) (a : A) → IsPrefix l m → get_elem? l j ≡ some a → get_elem? m j ≡ some a
  at_prefix l m j a p e = sym (ap (λ k. get_elem? k j) p.1) ∙ at_longer l p.0 j a e

  pub at_pushed : (l : List A) (a : A) → get_elem? (l ++ a ∷ []) (length l) ≡ some a
  at_pushed [] a = refl
  at_pushed (x ∷ xs) a = at_pushed xs a

  -- an element of a list with one more at its end
  pub at_push : (l : List A) (a b : A) (j : ℕ) → get_elem? (l ++ a ∷ []) j ≡ some b → (get_elem? l j ≡ some b) ⊎ ((j ≡ length l) × (a ≡ b))
  at_push [] a b zero e = inr (refl, some-injective a b e)
  at_push [] a b (suc j) e = absurd (some-ne-none b (sym e))
  at_push (x ∷ xs) a b zero e = inl e
  at_push (x ∷ xs) a b (suc j) e = elim (at_push xs a b j e) [ inl h ↦ inl h | inr h ↦ inr (ap suc h.0, h.1) ]

  pub all_at : (P : A → Type 0) (l : List A) (j : ℕ) (a : A) → get_elem? l j ≡ some a → AllByRecursion P l → P a
  all_at P [] j a e all = absurd (some-ne-none a (sym e))
  all_at P (x ∷ xs) zero a e all = subst P (some-injective x a e) all.0
  all_at P (x ∷ xs) (suc j) a e all = all_at P xs j a e all.1

  pub all_map : (P Q : A → Type 0) → ((a : A) → P a → Q a) → (l : List A) → AllByRecursion P l → AllByRecursion Q l
  all_map P Q f [] all = tt
  all_map P Q f (x ∷ xs) all = (f x all.0, all_map P Q f xs all.1)

  pub all_append : (P : A → Type 0) (l m : List A) → AllByRecursion P l → AllByRecursion P m → AllByRecursion P (l ++ m)
  all_append P [] m here there = there
  all_append P (x ∷ xs) m here there = (here.0, all_append P xs m here.1 there)

  pub all_split : (P : A → Type 0) (l m : List A) → AllByRecursion P (l ++ m) → AllByRecursion P l × AllByRecursion P m
  all_split P [] m all = (tt, all)
  all_split P (x ∷ xs) m all = let rest = all_split P xs m all.1 in ((all.0, rest.0), rest.1)

  -- two forms of a fact of every element
  all_by_shape : (P : A → Type 0) (l : List A) → All P l → AllByRecursion P l
  all_by_shape P [] each = tt
  all_by_shape P (x ∷ xs) each = (
    each 0 x (omega arith),
    all_by_shape P xs
        (λ i d below. subst (λ k. P (get_or (x ∷ xs) k d)) (add-one i) (each (i + 1) d (omega arith))),
  )

  all_by_index : (P : A → Type 0) (l : List A) → AllByRecursion P l → All P l
  all_by_index P [] all i d below = absurd (omega arith)
  all_by_index P (x ∷ xs) all zero d below = all.0
  all_by_index P (x ∷ xs) all (suc i) d below = all_by_index P xs all.1 i d (omega arith)

  -- the fact for a list that loses its last element, and for one that gets one more
  pub all_popped : (P : A → Type 0) (l m : List A) (x : A) → m ≡ l ++ x ∷ [] → All P m → All P l × P x
  all_popped P l m x e all = let both = all_split P l (x ∷ []) (subst (λ k. AllByRecursion P k) e (all_by_shape P m all)) in
      (all_by_index P l both.0, both.1.0)

  pub all_pushed : (P : A → Type 0) (l m : List A) (x : A) → m ≡ l ++ x ∷ [] → AllByRecursion P l → P x → AllByRecursion P m
  all_pushed P l m x e all one = subst (λ k. AllByRecursion P k) (sym e) (all_append P l (x ∷ []) all (one, tt))

  pub total_append : (f : A → ℕ) (l m : List A) → total_of f (l ++ m) ≡ total_of f l + total_of f m
  total_append f [] m = omega arith
  total_append f (x ∷ xs) m = let rest = total_append f xs m in omega arith

  pub total_set : (f : A → ℕ) (l : List A) (i : ℕ) (a b : A) → get_elem? l i ≡ some a → total_of f (set l i b) + f a ≡ total_of f l + f b
  total_set f [] i a b e = absurd (some-ne-none a (sym e))
  total_set f (x ∷ xs) zero a b e = let same : f x ≡ f a = ap f (some-injective x a e) in omega arith
  total_set f (x ∷ xs) (suc i) a b e = let rest = total_set f xs i a b e in omega arith

  -- no element has more than the total
  pub total_part : (f : A → ℕ) (l : List A) (i : ℕ) (a : A) → get_elem? l i ≡ some a → f a ≤ total_of f l
  total_part f [] i a e = absurd (some-ne-none a (sym e))
  total_part f (x ∷ xs) zero a e = let same : f x ≡ f a = ap f (some-injective x a e) in omega arith
  total_part f (x ∷ xs) (suc i) a e = let rest = total_part f xs i a e in omega arith

  pub total_le : (f g : A → ℕ) (l : List A) → ((j : ℕ) (a : A) → get_elem? l j ≡ some a → f a ≤ g a) → total_of f l ≤ total_of g l
  total_le f g [] le = omega arith
  total_le f g (x ∷ xs) le = let here = le 0 x refl in let rest = total_le f g xs (λ j a e. le (suc j) a e) in omega arith

  -- if f totals 0, and g is 0 at each element where f is, g totals 0
  pub total_none : (f g : A → ℕ) (l : List A) → ((j : ℕ) (a : A) → get_elem? l j ≡ some a → f a ≡ 0 → g a ≡ 0) → total_of f l ≡ 0 →
      total_of g l ≡ 0
  total_none f g [] zeros e = refl
  total_none f g (x ∷ xs) zeros e = let here = zeros 0 x refl (omega arith) in let rest =
      total_none f g xs (λ j a. zeros (suc j) a) (omega arith) in omega arith

  -- if one element has the whole total of f, and g is 0 wherever f is, it has the whole total of g
  pub total_only : (f g : A → ℕ) (l : List A) (i : ℕ) (a : A) → get_elem? l i ≡ some a → total_of f l ≡ f a →
      ((j : ℕ) (b : A) → get_elem? l j ≡ some b → f b ≡ 0 → g b ≡ 0) → total_of g l ≡ g a
  total_only f g [] i a e all zeros = absurd (some-ne-none a (sym e))
  total_only f g (x ∷ xs) zero a e all zeros =
      let same_f : f x ≡ f a = ap f (some-injective x a e) in let same_g : g x ≡ g a = ap g (some-injective x a e) in
      let rest = total_none f g xs (λ j b. zeros (suc j) b) (omega arith) in omega arith
  total_only f g (x ∷ xs) (suc i) a e all zeros =
      let most = total_part f xs i a e in let here = zeros 0 x refl (omega arith) in
      let rest = total_only f g xs i a e (omega arith) (λ j b. zeros (suc j) b) in omega arith

  -- an element that counts
  pub total_some : (f : A → ℕ) (l : List A) → 0 < total_of f l → (i : ℕ) × (a : A) × (get_elem? l i ≡ some a) × (0 < f a)
  total_some f [] some_left = absurd (omega arith)
  total_some f (x ∷ xs) some_left = dite (ℕ_discrete (f x) 0)
      (λ none. let rest = total_some f xs (omega arith) in (suc rest.0, rest.1, rest.2, rest.3))
      (λ here. (0, x, refl, omega arith))

  pub only_of : (l : List A) → length l ≡ 1 → (a : A) × (l ≡ a ∷ [])
  only_of [] e = absurd (omega arith)
  only_of (x ∷ []) e = (x, refl)
  only_of (x ∷ y ∷ ys) e = absurd (omega arith)

  pub nil_of : (l : List A) → length l ≡ 0 → l ≡ []
  nil_of [] e = refl
  nil_of (x ∷ xs) e = absurd (omega arith)

  pub some_of : (x : Option A) → is_some x ≡ true → (a : A) × (x ≡ Some a)
  some_of (Some a) e = (a, refl)
  some_of None e = absurd (cc)
