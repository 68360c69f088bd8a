-- Two sorted lists, where each item of one has its match in the other, and the items in front of an item.
use Rattle.std.proofs.Common.{◌≡◌, ◌⊎◌, ℕ, zero, suc, ◌+◌, ◌≤◌, Bool, not, List, [], ◌∷◌, take, filter, Some, Contains, refl, ap, sym, ◌∙◌}
use Rattle.std.proofs.Common.{subst, inl, inr, arith}
use Rattle.std.specs.Prelude.{slice_get}
use Rattle.std.specs.List.Sorted.{IsStrictlySortedBy}
use Rattle.std.specs.Ordering.{is_eq}
use Rattle.std.specs.declared.cmp.Ordering.{Ordering}
use Rattle.std.specs.declared.cmp.Ordering.TheVariants.{Less, Equal, Greater}
use Rattle.std.proofs.lemmas.Cmp.{tied_back, tied_itself}
use Rattle.std.proofs.lemmas.List.Kept.{IsStrictlySortedBy-filter}
use Rattle.std.proofs.lemmas.Option.{same_Some}
use Rattle.ds_entry.specs.Item.{item_cmp}
use Rattle.ds_entry.specs.declared.item.Item.{Item}
use Rattle.ds_entry.proofs.ItemLemmas.{items_total}
use Rattle.ds_entry.proofs.Members.{In, Contains-filter, Contains-from_In, In-from_Contains}
use Rattle.ds_entry.proofs.OrderedLemmas.{from_along}
use Rattle.ds_machine.proofs.CountLemmas.{total, total_dropped}

less_not_tied : (x y : Item) → item_cmp x y ≡ Less → item_cmp x y ≡ Equal → ⊥
less_not_tied x y l e = let no : Less ≡ Equal = sym l ∙ e in cc

module _ (w : Item → ℕ) where
  -- the item counts for nothing, or one of these ties with it and counts for as much
  abbrev IsMatched : Item → List Item → Type 0
  IsMatched x ys = (w x ≡ 0) ⊎ ((y : Item) × In y ys × (item_cmp x y ≡ Equal) × (w x ≤ w y))

  -- not by the first of them, which doesn't tie with it
  matched_later : (x y : Item) (ys : List Item) → IsMatched x (y ∷ ys) → (item_cmp x y ≡ Equal → ⊥) → IsMatched x ys
  matched_later x y ys (inl zero_is) never = inl zero_is
  matched_later x y ys (inr (z, inl e, tie, le)) never = absurd (never (subst (λ (v : Item). item_cmp x v ≡ Equal) e tie))
  matched_later x y ys (inr (z, inr h, tie, le)) never = inr (z, h, tie, le)

  -- where the two first tie, no later one ties with the first of the others
  no_later_ties : (x y z : Item) → item_cmp x y ≡ Equal → item_cmp x z ≡ Less → item_cmp z y ≡ Equal → ⊥
  no_later_ties x y z tie l e = less_not_tied y z (sym (items_total.congr x y z tie) ∙ l) (tied_back items_total z y e)

  -- where the first ties with a later one of the others, none ties with their first
  none_ties : (x y v z : Item) → item_cmp x v ≡ Equal → item_cmp y v ≡ Less → (z ≡ x) ⊎ (item_cmp x z ≡ Less) → item_cmp z y ≡ Equal → ⊥
  none_ties x y v z tie l (inl e) t =
      let same : item_cmp x y ≡ Equal = subst (λ (i : Item). item_cmp i y ≡ Equal) e t in
      less_not_tied y v l (sym (items_total.congr x y v same) ∙ tie)
  none_ties x y v z tie l (inr k) t = less_not_tied x v (items_total.trans x z v k (items_total.congr z y v t ∙ l)) tie

  -- so they count for no more
  no_heavier : (xs ys : List Item) → IsStrictlySortedBy item_cmp xs → IsStrictlySortedBy item_cmp ys →
      ((x : Item) → In x xs → IsMatched x ys) → total w xs ≤ total w ys
  unfolding total IsStrictlySortedBy
  no_heavier [] ys s t f = omega arith
  no_heavier (x ∷ xs) [] s t f = by_match (f x (inl refl)) (no_heavier xs [] s.1 t (λ z h. f z (inr h)))
    where
      by_match : IsMatched x [] → total w xs ≤ 0 → w x + total w xs ≤ 0
      by_match (inl e) rest = omega (arith, e, rest)
      by_match (inr m) rest = absurd m.1
  no_heavier (x ∷ xs) (y ∷ ys) s t f =
      by_match (f x (inl refl)) (no_heavier xs (y ∷ ys) s.1 t (λ z h. f z (inr h)))
      (λ tie. no_heavier xs ys s.1 t.1 (λ z h. matched_later z y ys (f z (inr h))
      (no_later_ties x y z tie (from_along (λ i. item_cmp x i ≡ Less) xs z s.0 h))))
      (λ v h tie. no_heavier (x ∷ xs) ys s t.1 (λ z k.
      matched_later z y ys (f z k) (none_ties x y v z tie (from_along (λ i. item_cmp y i ≡ Less) ys v t.0 h) (above z k))))
    where
      above : (z : Item) → In z (x ∷ xs) → (z ≡ x) ⊎ (item_cmp x z ≡ Less)
      above z (inl e) = inl e
      above z (inr h) = inr (from_along (λ i. item_cmp x i ≡ Less) xs z s.0 h)

      by_match : IsMatched x (y ∷ ys) → total w xs ≤ w y + total w ys → (item_cmp x y ≡ Equal → total w xs ≤ total w ys) →
          ((v : Item) → In v ys → item_cmp x v ≡ Equal → w x + total w xs ≤ total w ys) → w x + total w xs ≤ w y + total w ys
      by_match (inl e) none first later = omega (arith, e, none)
      by_match (inr (v, inl e, tie, le)) none first later =
          let rest = first (subst (λ (i : Item). item_cmp x i ≡ Equal) e tie) in
          let as_much : w x ≤ w y = subst (λ (i : Item). w x ≤ w i) e le in
          omega (arith, rest, as_much)
      by_match (inr (v, inr h, tie, le)) none first later = let rest = later v h tie in omega (arith, rest)

  -- ---- and where none ties with one of the others, they count for less by that one
  module _ (ones others : List Item) (c : Item) (s : IsStrictlySortedBy item_cmp ones) (t : IsStrictlySortedBy item_cmp others)
      (f : (x : Item) → Contains ones x → (w x ≡ 0) ⊎ ((y : Item) × Contains others y × (item_cmp x y ≡ Equal) × (w x ≤ w y)))
      (h : Contains others c) (never : (x : Item) → Contains ones x → item_cmp x c ≡ Equal → w x ≡ 0) where
    abbrev apart : Item → Bool
    apart y = not (is_eq (item_cmp y c))

    matched_apart : (x : Item) → In x ones → IsMatched x (filter apart others)
    matched_apart x k = by_match (f x there)
      where
        there : Contains ones x
        there = Contains-from_In x ones k

        by_order : (y : Item) → Contains others y → item_cmp x y ≡ Equal → w x ≤ w y → (o : Ordering) → item_cmp y c ≡ o →
            IsMatched x (filter apart others)
        by_order y m tie le Equal e = inl (never x there (items_total.congr x y c tie ∙ e))
        by_order y m tie le Less e = inr (
          y,
          In-from_Contains y (filter apart others) (Contains-filter apart others y m (ap (λ (o : Ordering). not (is_eq o)) e)),
          tie,
          le,
        )
        by_order y m tie le Greater e = inr (
          y,
          In-from_Contains y (filter apart others) (Contains-filter apart others y m (ap (λ (o : Ordering). not (is_eq o)) e)),
          tie,
          le,
        )

        by_match : (w x ≡ 0) ⊎ ((y : Item) × Contains others y × (item_cmp x y ≡ Equal) × (w x ≤ w y)) → IsMatched x (filter apart others)
        by_match (inl e) = inl e
        by_match (inr (y, m, tie, le)) = by_order y m tie le (item_cmp y c) refl

    pub lighter : total w ones + w c ≤ total w others
    lighter =
        let without = no_heavier ones (filter apart others) s (IsStrictlySortedBy-filter item_cmp apart others t) matched_apart in
        let dropped = total_dropped w apart others c h (ap (λ (o : Ordering). not (is_eq o)) (tied_itself items_total c)) in
        omega (arith, without, dropped)

-- ---- items less than an item are in front of it, in each prefix of the list
in_front : (m n : ℕ) (xs : List Item) (x y : Item) → IsStrictlySortedBy item_cmp xs → In x xs → slice_get (take m xs) n ≡ Some y →
    item_cmp x y ≡ Less → In x (take n (take m xs))
unfolding IsStrictlySortedBy
in_front m n [] x y s h e l = absurd h
in_front zero n (z ∷ xs) x y s h e l = absurd (cc)
in_front (suc m) zero (z ∷ xs) x y s (inl q) e l =
    let same : z ≡ y = same_Some z y e in
    absurd (less_not_tied x y l (subst (λ (v : Item). item_cmp x v ≡ Equal) (q ∙ same) (tied_itself items_total x)))
in_front (suc m) zero (z ∷ xs) x y s (inr h) e l =
    let same : z ≡ y = same_Some z y e in
    let back : item_cmp y x ≡ Less = subst (λ (v : Item). item_cmp v x ≡ Less) same (from_along (λ i. item_cmp z i ≡ Less) xs x s.0 h) in
    absurd (less_not_tied x x (items_total.trans x y x l back) (tied_itself items_total x))
in_front (suc m) (suc n) (z ∷ xs) x y s (inl q) e l = inl q
in_front (suc m) (suc n) (z ∷ xs) x y s (inr h) e l = inr (in_front m n xs x y s.1 h e l)

pub stands_in_front : (m n : ℕ) (xs : List Item) (x y : Item) → IsStrictlySortedBy item_cmp xs → Contains xs x →
    slice_get (take m xs) n ≡ Some y → item_cmp x y ≡ Less →
    Contains (take n (take m xs)) x
stands_in_front m n xs x y s h e l = Contains-from_In x (take n (take m xs)) (in_front m n xs x y s (In-from_Contains x xs h) e l)
