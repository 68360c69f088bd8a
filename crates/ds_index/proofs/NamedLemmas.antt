-- Labels in the order of their endpoints: the place of one, and what an edit leaves.
use Rattle.std.proofs.Common.{◌≡◌, ℕ, zero, suc, ◌+◌, ◌<◌, ◌≤◌, ◌⊎◌, not, Bool, true, false, cond, List, [], ◌∷◌, length, get_or, set}
use Rattle.std.proofs.Common.{nat_lt, ◌==◌, Option, Some, None, refl, sym, ap, ◌∙◌, subst, arith, inl, inr, Contains}
use Rattle.std.specs.declared.cmp.Ordering.{Ordering}
use Rattle.std.specs.declared.cmp.Ordering.TheVariants.{Less, Equal, Greater}
use Rattle.std.specs.Ordering.{nat_cmp, ordering_then, is_eq, is_lt, ordering_reverse}
use Rattle.std.specs.Cmp.{IsTotalOrder, tied_itself}
use Rattle.std.specs.List.{find, slice_get, insert, remove, AllByRecursion}
use Rattle.std.specs.Option.{option_map_or}
use Rattle.std.specs.List.Sorted.{IsStrictlySortedBy, IsPartitionedBy, IsPartitionPoint}
use Rattle.std.proofs.lemmas.Cmp.{on_total, then_total, nat_cmp_total, nat_list_cmp_total}
use Rattle.std.proofs.lemmas.Map.Lookups.{exact_pairs, exact_unsigned, exact_bytes}
use Rattle.std.proofs.lemmas.Option.{same_Some, slice_get_within, slice_get-get_or, get_or_from_slice_get}
use Rattle.std.proofs.lemmas.Map.Keys.{Less-from_sorted}
use Rattle.ds_entry.proofs.Members.{In, In-from_Contains, Contains-from_In}
use Rattle.ds_names.specs.Endpoint.{EndpointRecord}
use Rattle.ds_names.specs.Key.{name_cmp}
use Rattle.ds_index.specs.declared.named.Named.{Named}
use Rattle.ds_index.specs.Named.{slot_of, generation_of, holder_cmp, named_cmp, is_label_after, is_after_in_slot, begins_after}
use Rattle.ds_index.specs.Named.{holds_endpoint, inserted_label, IsBegin, IsLabelPlace, IsNearLabel}
use Rattle.ds_index.specs.Index.{IsAdded, IsReplaced}
use Rattle.std.proofs.lemmas.Bool.{eqb-true}
use Rattle.ds_names.proofs.Tests.{opposed, less_is, turned}
use Rattle.ds_entry.proofs.OrderedLemmas.{from_along}
use Rattle.ds_held.proofs.SearchLemmas.{at}

-- ---- the orders are total, and what compares alike is one
pub holders_total : IsTotalOrder holder_cmp
holders_total = then_total (on_total slot_of nat_cmp_total) (on_total generation_of nat_cmp_total)

pub names_total : IsTotalOrder named_cmp
names_total = then_total (on_total (λ (p : Named). p.endpoint) holders_total) (on_total (λ (p : Named). p.name) nat_list_cmp_total)

-- the endpoint of these numbers
abbrev holder_at : ℕ × ℕ → Option EndpointRecord
holder_at (zero, g) = None
holder_at (suc s, g) = Some (record { generation = g; slot = s })

holder_at-numbers : (o : Option EndpointRecord) → holder_at (slot_of o, generation_of o) ≡ o
holder_at-numbers None = holder_at-none (generation_of None)
  where
    holder_at-none : (g : ℕ) → holder_at (0, g) ≡ None
    holder_at-none g = refl
holder_at-numbers (Some e) = refl

pub same_holder : (a b : Option EndpointRecord) → holder_cmp a b ≡ Equal → a ≡ b
same_holder a b h = sym (holder_at-numbers a) ∙
    ap holder_at (exact_pairs nat_cmp nat_cmp exact_unsigned exact_unsigned (slot_of a, generation_of a) (slot_of b, generation_of b) h) ∙
    holder_at-numbers b

not_itself : (p : Named) → named_cmp p p ≡ Less → ⊥
not_itself p l = let no : Equal ≡ Less = sym (tied_itself names_total p) ∙ l in absurd (cc)

-- Slots that differ decide which label comes after the other.
apart_by : (less same : Bool) (x y : Ordering) → same ≡ false →
    less ≡ is_lt (ordering_then (ordering_then (cond less Less (cond same Equal Greater)) x) y)
apart_by true same x y e = refl
apart_by false false x y e = refl
apart_by false true x y e = absurd (cc)

pub slots_tell : (p q : Named) → (slot_of q.endpoint == slot_of p.endpoint) ≡ false →
    nat_lt (slot_of q.endpoint) (slot_of p.endpoint) ≡ is_label_after p q
slots_tell p q e = apart_by (nat_lt (slot_of q.endpoint) (slot_of p.endpoint)) (slot_of q.endpoint == slot_of p.endpoint)
    (nat_cmp (generation_of q.endpoint) (generation_of p.endpoint)) (name_cmp q.name p.name) e

-- Where they agree, the generations and names decide.
pub slots_agree : (p q : Named) → (slot_of q.endpoint == slot_of p.endpoint) ≡ true → is_after_in_slot p q ≡ is_label_after p q
slots_agree p q e =
    let tied : nat_cmp (slot_of q.endpoint) (slot_of p.endpoint) ≡ Equal =
    ap (λ n. nat_cmp (slot_of q.endpoint) n) (sym (eqb-true (slot_of q.endpoint) (slot_of p.endpoint) e)) ∙
    tied_itself nat_cmp_total (slot_of q.endpoint) in
    ap (λ o. is_lt (ordering_then (ordering_then o (nat_cmp (generation_of q.endpoint) (generation_of p.endpoint)))
    (name_cmp q.name p.name))) (sym tied)

-- ---- where a label belongs

after_down : (p x y : Named) → named_cmp x y ≡ Less → is_label_after p y ≡ true → is_label_after p x ≡ true
after_down p x y l u = ap is_lt (names_total.trans x y p l (less_is (named_cmp y p) u))

pub after_partitioned : (p : Named) (xs : List Named) → IsStrictlySortedBy named_cmp xs → IsPartitionedBy (is_label_after p) xs
unfolding IsStrictlySortedBy
after_partitioned p [] s i j d l w h = absurd (omega (arith, w))
after_partitioned p (x ∷ xs) s zero zero d l w h = h
after_partitioned p (x ∷ xs) s zero (suc j) d l w h =
    after_down p x (get_or xs j d) (at (λ y. named_cmp x y ≡ Less) xs j d s.0 (omega (arith, w))) h
after_partitioned p (x ∷ xs) s (suc i) zero d l w h = absurd (omega (arith, l))
after_partitioned p (x ∷ xs) s (suc i) (suc j) d l w h = after_partitioned p xs s.1 i j d (omega (arith, l)) (omega (arith, w)) h

place_within : (p x : Named) (xs : List Named) (i : ℕ) → IsLabelPlace p (x ∷ xs) (suc i) → IsLabelPlace p xs i
place_within p x xs i h =
    (λ k d l w. h.0 (suc k) d (omega (arith, l)) (omega (arith, w)), λ k d l w. h.1 (suc k) d (omega (arith, l)) (omega (arith, w)))

-- A listed label is at its place.
pub place_is : (b : Named) (xs : List Named) (i : ℕ) → IsStrictlySortedBy named_cmp xs → In b xs → IsLabelPlace b xs i →
    slice_get xs i ≡ Some b
unfolding IsStrictlySortedBy
place_is b [] i s h p = absurd h
place_is b (x ∷ xs) zero s (inl e) p = ap (λ y. Some y) (sym e)
place_is b (x ∷ xs) zero s (inr h) p =
    opposed (is_label_after b x) (ap is_lt (from_along (λ y. named_cmp x y ≡ Less) xs b s.0 h)) (p.1 0 x (omega arith) (omega arith))
place_is b (x ∷ xs) (suc i) s (inl e) p =
    let before : is_label_after b x ≡ true = p.0 0 x (omega arith) (omega arith) in
    absurd (not_itself b (subst (λ (y : Named). named_cmp y b ≡ Less) (sym e) (less_is (named_cmp x b) before)))
place_is b (x ∷ xs) (suc i) s (inr h) p = place_is b xs i s.1 h (place_within b x xs i p)

pub stands_at : (b : Named) (xs ys : List Named) (i : ℕ) → IsStrictlySortedBy named_cmp xs → Contains xs b → ys ≡ xs →
    IsLabelPlace b ys i → slice_get xs i ≡ Some b
stands_at b xs ys i s h e p = place_is b xs i s (In-from_Contains b xs h) (subst (λ (l : List Named). IsLabelPlace b l i) e p)

pub stands_within : (b : Named) (xs ys : List Named) (i n : ℕ) → IsStrictlySortedBy named_cmp xs → Contains xs b → ys ≡ xs →
    IsLabelPlace b ys i → n ≡ length xs → i < n
stands_within b xs ys i n s h e p long = subst (λ m. i < m) (sym long) (slice_get_within xs i b (stands_at b xs ys i s h e p))

-- ---- what the labels beside an index say of all others
-- the one at the index passes
abbrev pub passes_nth : (Named → Bool) → List Named → ℕ → Bool
passes_nth test xs i = option_map_or test (slice_get xs i) false

module _ (test : Named → Bool) (xs : List Named) (parted : IsPartitionedBy test xs) where
  -- An element that passes is in the list.
  passes_within : (i : ℕ) → passes_nth test xs i ≡ true → i < length xs
  passes_within i b = by_found (slice_get xs i) refl b
    where
      by_found : (o : Option Named) → slice_get xs i ≡ o → option_map_or test o false ≡ true → i < length xs
      by_found None e q = absurd (cc)
      by_found (Some x) e q = slice_get_within xs i x e

  -- all before it pass
  pub passes_all : (i : ℕ) → passes_nth test xs i ≡ true → (k : ℕ) (d : Named) → k ≤ i → test (get_or xs k d) ≡ true
  passes_all i b k d l =
      let w = passes_within i b in
      parted k i d l w (sym (ap (λ o. option_map_or test o false) (slice_get-get_or xs i d w)) ∙ b)

  -- where one doesn't pass, none from it on does
  pub passes_none : (i : ℕ) → passes_nth test xs i ≡ false → (k : ℕ) (d : Named) → i ≤ k → k < length xs → test (get_or xs k d) ≡ false
  passes_none i b k d l w = by_test (test (get_or xs k d)) refl
    where
      by_test : (t : Bool) → test (get_or xs k d) ≡ t → t ≡ false
      by_test false e = refl
      by_test true e =
          let here : i < length xs = omega (arith, l, w) in
          let first : test (get_or xs i d) ≡ true = parted i k d l w e in
          opposed (passes_nth test xs i) (ap (λ o. option_map_or test o false) (slice_get-get_or xs i d here) ∙ first) b

  -- so those that pass end there
  pub point_first : passes_nth test xs 0 ≡ false → IsPartitionPoint (λ y. test y ≡ true) (λ y. test y ≡ false) xs 0
  point_first high = (λ k d l w. absurd (omega (arith, l)), λ k d l w. passes_none 0 high k d l w)

  pub point_next : (i j : ℕ) → j + 1 ≡ i → passes_nth test xs j ≡ true → passes_nth test xs i ≡ false →
      IsPartitionPoint (λ y. test y ≡ true) (λ y. test y ≡ false) xs i
  point_next i j e low high = (λ k d l w. passes_all j low k d (omega (arith, l, e)), λ k d l w. passes_none i high k d l w)

  pub point_bound : (i j : ℕ) → j + 1 ≡ i → passes_nth test xs j ≡ true → i ≤ length xs
  point_bound i j e low = let w = passes_within j low in omega (arith, w, e)

-- ---- a label between those beside an index
-- How the label compares with the one at the index.
abbrev pub after_nth : Named → List Named → ℕ → Bool
after_nth p xs i = passes_nth (is_label_after p) xs i

module _ (p : Named) (xs : List Named) (s : IsStrictlySortedBy named_cmp xs) where
  after_all : (i : ℕ) → after_nth p xs i ≡ true → (k : ℕ) (d : Named) → k ≤ i → is_label_after p (get_or xs k d) ≡ true
  after_all = passes_all (is_label_after p) xs (after_partitioned p xs s)

  after_none : (i : ℕ) → after_nth p xs i ≡ false → (k : ℕ) (d : Named) → i ≤ k → k < length xs → is_label_after p (get_or xs k d) ≡ false
  after_none = passes_none (is_label_after p) xs (after_partitioned p xs s)

  between : (i : ℕ) → ((k : ℕ) (d : Named) → k < i → is_label_after p (get_or xs k d) ≡ true) → after_nth p xs (i + 1) ≡ false →
      IsNearLabel p xs i
  between i low high = by_test (after_nth p xs i) refl
    where
      by_test : (t : Bool) → after_nth p xs i ≡ t → IsNearLabel p xs i
      by_test true e = (
        i + 1,
        (
          λ k d l w. after_all i e k d (omega (arith, l)),
          λ k d l w.
              after_none (i + 1) high k d (omega (arith, l)) (omega (arith, w)),
        ),
        omega arith,
        omega arith,
      )
      by_test false e = (
        i,
        (λ k d l w. low k d (omega (arith, l)), λ k d l w. after_none i e k d (omega (arith, l)) (omega (arith, w))),
        omega arith,
        omega arith,
      )

  pub near_first : after_nth p xs 1 ≡ false → IsNearLabel p xs 0
  near_first high = between 0 (λ k d l. absurd (omega (arith, l))) high

  pub near_next : (i j : ℕ) → j + 1 ≡ i → after_nth p xs j ≡ true → after_nth p xs (i + 1) ≡ false → IsNearLabel p xs i
  near_next i j e low high = between i (λ k d l. after_all j low k d (omega (arith, l, e))) high

-- ---- one more label goes to its place
pub inserted_there : (p : Named) (xs : List Named) (i : ℕ) → i ≤ length xs → IsLabelPlace p xs i → insert xs i p ≡ inserted_label p xs
inserted_there p [] zero w h = refl
inserted_there p [] (suc i) w h = absurd (omega (arith, w))
inserted_there p (x ∷ xs) zero w h = sym (ap (λ b. cond b (x ∷ inserted_label p xs) (p ∷ x ∷ xs)) (h.1 0 x (omega arith) (omega arith)))
inserted_there p (x ∷ xs) (suc i) w h =
    ap (λ l. x ∷ l) (inserted_there p xs i (omega (arith, w)) (place_within p x xs i h))
    ∙ sym (ap (λ b. cond b (x ∷ inserted_label p xs) (p ∷ x ∷ xs)) (h.0 0 x (omega arith) (omega arith)))

-- A label whose place is that of another one replaces it.
pub set_there : (a b : Named) (xs : List Named) (i j : ℕ) → slice_get xs i ≡ Some b → IsLabelPlace a xs j → i ≤ j → j ≤ i + 1 →
    set xs i a ≡ inserted_label a (remove xs i)
set_there a b [] i j e p l m = absurd (cc)
set_there a b (x ∷ []) zero j e p l m = refl
set_there a b (x ∷ y ∷ ys) zero j e p l m =
    sym (ap (λ t. cond t (y ∷ inserted_label a ys) (a ∷ y ∷ ys)) (p.1 1 y (omega (arith, m)) (omega arith)))
set_there a b (x ∷ xs) (suc i) zero e p l m = absurd (omega (arith, l))
set_there a b (x ∷ xs) (suc i) (suc j) e p l m =
    ap (λ l. x ∷ l) (set_there a b xs i j e (place_within a x xs j p) (omega (arith, l)) (omega (arith, m)))
    ∙ sym (ap (λ t. cond t (x ∷ inserted_label a (remove xs i)) (a ∷ x ∷ remove xs i)) (p.0 0 x (omega arith) (omega arith)))

-- ---- the order stays
abbrev IsBelow : Named → List Named → Type 0
IsBelow x xs = AllByRecursion (λ y. named_cmp x y ≡ Less) xs

below_further : (x y : Named) (ds : List Named) → named_cmp x y ≡ Less → IsBelow y ds → IsBelow x ds
below_further x y [] h a = tt
below_further x y (d ∷ ds) h a = (names_total.trans x y d h a.0, below_further x y ds h a.1)

below_inserted : (x c : Named) (xs : List Named) → named_cmp x c ≡ Less → IsBelow x xs → IsBelow x (inserted_label c xs)
below_inserted x c [] h a = (h, tt)
below_inserted x c (d ∷ ds) h a =
    elim (is_label_after c d) as (λ b. IsBelow x (cond b (d ∷ inserted_label c ds) (c ∷ d ∷ ds)))
    [ true ↦ (a.0, below_inserted x c ds h a.1) | false ↦ (h, a) ]

pub inserted_sorted : (c : Named) (xs : List Named) → IsStrictlySortedBy named_cmp xs →
    ((d : Named) → In d xs → named_cmp d c ≡ Equal → ⊥) → IsStrictlySortedBy named_cmp (inserted_label c xs)
unfolding IsStrictlySortedBy
inserted_sorted c [] s n = (tt, tt)
inserted_sorted c (d ∷ ds) s n = by_test (is_label_after c d) refl (inserted_sorted c ds s.1 (λ e h. n e (inr h)))
  where
    by_test : (b : Bool) → is_label_after c d ≡ b → IsStrictlySortedBy named_cmp (inserted_label c ds) →
        IsStrictlySortedBy named_cmp (cond b (d ∷ inserted_label c ds) (c ∷ d ∷ ds))
    by_test true e rest = (below_inserted d c ds (less_is (named_cmp d c) e) s.0, rest)
    by_test false e rest =
        let l : named_cmp c d ≡ Less = names_total.antisymm c d ∙ turned (named_cmp d c) e (n d (inl refl)) in
        ((l, below_further c d ds l s.0), s)

below_removed : (x : Named) (xs : List Named) (i : ℕ) → IsBelow x xs → IsBelow x (remove xs i)
below_removed x [] zero a = tt
below_removed x [] (suc i) a = tt
below_removed x (d ∷ ds) zero a = a.1
below_removed x (d ∷ ds) (suc i) a = (a.0, below_removed x ds i a.1)

pub removed_sorted : (xs : List Named) (i : ℕ) → IsStrictlySortedBy named_cmp xs → IsStrictlySortedBy named_cmp (remove xs i)
unfolding IsStrictlySortedBy
removed_sorted [] zero s = tt
removed_sorted [] (suc i) s = tt
removed_sorted (d ∷ ds) zero s = s.1
removed_sorted (d ∷ ds) (suc i) s = (below_removed d ds i s.0, removed_sorted ds i s.1)

-- ---- what is listed then
In-inserted : (p : Named) (xs : List Named) → In p (inserted_label p xs)
In-inserted p [] = inl refl
In-inserted p (x ∷ xs) = elim (is_label_after p x) as (λ b. In p (cond b (x ∷ inserted_label p xs) (p ∷ x ∷ xs)))
    [ true ↦ inr (In-inserted p xs) | false ↦ inl refl ]

In-still : (p q : Named) (xs : List Named) → In q xs → In q (inserted_label p xs)
In-still p q [] h = absurd h
In-still p q (x ∷ xs) (inl e) = elim (is_label_after p x) as (λ b. In q (cond b (x ∷ inserted_label p xs) (p ∷ x ∷ xs)))
    [ true ↦ inl e | false ↦ inr (inl e) ]
In-still p q (x ∷ xs) (inr h) = elim (is_label_after p x) as (λ b. In q (cond b (x ∷ inserted_label p xs) (p ∷ x ∷ xs)))
    [ true ↦ inr (In-still p q xs h) | false ↦ inr (inr h) ]

In-from_inserted : (p q : Named) (xs : List Named) → In q (inserted_label p xs) → (q ≡ p) ⊎ In q xs
In-from_inserted p q [] (inl e) = inl e
In-from_inserted p q [] (inr h) = absurd h
In-from_inserted p q (x ∷ xs) h = by_test (is_label_after p x) h (In-from_inserted p q xs)
  where
    by_test : (b : Bool) → In q (cond b (x ∷ inserted_label p xs) (p ∷ x ∷ xs)) → (In q (inserted_label p xs) → (q ≡ p) ⊎ In q xs) →
        (q ≡ p) ⊎ In q (x ∷ xs)
    by_test true (inl e) rest = inr (inl e)
    by_test true (inr k) rest = elim (rest k) [ inl e ↦ inl e | inr i ↦ inr (inr i) ]
    by_test false (inl e) rest = inl e
    by_test false (inr k) rest = inr k

In-at : (xs : List Named) (i : ℕ) (b : Named) → slice_get xs i ≡ Some b → In b xs
In-at [] i b e = absurd (cc)
In-at (x ∷ xs) zero b e = inl (sym (same_Some x b e))
In-at (x ∷ xs) (suc i) b e = inr (In-at xs i b e)

In-removed : (xs : List Named) (i : ℕ) (b q : Named) → slice_get xs i ≡ Some b → In q xs → (q ≡ b → ⊥) → In q (remove xs i)
In-removed [] i b q e h n = absurd (cc)
In-removed (x ∷ xs) zero b q e (inl s) n = absurd (n (s ∙ same_Some x b e))
In-removed (x ∷ xs) zero b q e (inr h) n = h
In-removed (x ∷ xs) (suc i) b q e (inl s) n = inl s
In-removed (x ∷ xs) (suc i) b q e (inr h) n = inr (In-removed xs i b q e h n)

In-from_removed : (xs : List Named) (i : ℕ) (b q : Named) → IsStrictlySortedBy named_cmp xs → slice_get xs i ≡ Some b →
    In q (remove xs i) → In q xs × (q ≡ b → ⊥)
unfolding IsStrictlySortedBy
In-from_removed [] i b q s e h = absurd (cc)
In-from_removed (x ∷ xs) zero b q s e h = (
  inr h,
  λ r. not_itself b (subst (λ (y : Named). named_cmp y b ≡ Less) (same_Some x b e)
      (subst (λ (y : Named). named_cmp x y ≡ Less) r (from_along (λ y. named_cmp x y ≡ Less) xs q s.0 h))),
)
In-from_removed (x ∷ xs) (suc i) b q s e (inl r) = (
  inl r,
  λ t. not_itself b (subst (λ (y : Named). named_cmp y b ≡ Less) (sym r ∙ t)
      (from_along (λ y. named_cmp x y ≡ Less) xs b s.0 (In-at xs i b e))),
)
In-from_removed (x ∷ xs) (suc i) b q s e (inr h) = let rest = In-from_removed xs i b q s.1 e h in (inr rest.0, rest.1)

pub is_added : (p : Named) (xs : List Named) → IsAdded xs (inserted_label p xs) p
is_added p xs = record {
  keeps = λ q h. Contains-from_In q (inserted_label p xs) (In-still p q xs (In-from_Contains q xs h));
  here = Contains-from_In p (inserted_label p xs) (In-inserted p xs);
  only = λ q h. elim (In-from_inserted p q xs (In-from_Contains q (inserted_label p xs) h))
      [ inl e ↦ inl e | inr i ↦ inr (Contains-from_In q xs i) ];
}

-- No listed label compares equal to a label that isn't listed.
pub no_other : (c : Named) (xs : List Named) → (Contains xs c → ⊥) → (d : Named) → In d xs → named_cmp d c ≡ Equal → ⊥
no_other c xs n d h e = n (Contains-from_In c xs (subst (λ (y : Named). In y xs) (same_named d c e) h))
  where
    same_named : (a b : Named) → named_cmp a b ≡ Equal → a ≡ b
    same_named a b h =
        let parts = exact_pairs (λ (x y : ℕ × ℕ). ordering_then (nat_cmp x.0 y.0) (nat_cmp x.1 y.1)) name_cmp
        (λ x y k. exact_pairs nat_cmp nat_cmp exact_unsigned exact_unsigned x y k) exact_bytes
        ((slot_of a.endpoint, generation_of a.endpoint), a.name)
        ((slot_of b.endpoint, generation_of b.endpoint), b.name) h in
        let endpoint : a.endpoint ≡ b.endpoint =
        sym (holder_at-numbers a.endpoint) ∙ ap (λ (r : (ℕ × ℕ) × List ℕ). holder_at r.0) parts ∙ holder_at-numbers b.endpoint in
        let name : a.name ≡ b.name = ap (λ (r : (ℕ × ℕ) × List ℕ). r.1) parts in
        ap (λ (o : Option EndpointRecord). record { endpoint = o; name = a.name }) endpoint ∙
        ap (λ (n : List ℕ). record { endpoint = b.endpoint; name = n }) name

module _ (xs : List Named) (i : ℕ) (b a : Named) (s : IsStrictlySortedBy named_cmp xs) (e : slice_get xs i ≡ Some b) where
  pub is_replaced : IsReplaced xs (inserted_label a (remove xs i)) b a
  is_replaced = record {
    keeps = λ q h n. Contains-from_In q (inserted_label a (remove xs i))
        (In-still a q (remove xs i) (In-removed xs i b q e (In-from_Contains q xs h) n));
    here = Contains-from_In a (inserted_label a (remove xs i)) (In-inserted a (remove xs i));
    only = λ q h.
        elim (In-from_inserted a q (remove xs i) (In-from_Contains q (inserted_label a (remove xs i)) h)) [
          | inl r ↦ inl r
          | inr k ↦ (let rest = In-from_removed xs i b q s e k in inr (Contains-from_In q xs rest.0, rest.1))
        ];
  }

  pub replaced_sorted : (Contains xs a → a ≡ b) → IsStrictlySortedBy named_cmp (inserted_label a (remove xs i))
  replaced_sorted lone =
      inserted_sorted a (remove xs i) (removed_sorted xs i s) (no_other a (remove xs i) (λ h.
      (let rest = In-from_removed xs i b a s e (In-from_Contains a (remove xs i) h) in
      rest.1 (lone (Contains-from_In a xs rest.0)))))

-- ---- the first of an endpoint
-- Where an endpoint's labels begin after a label, they begin after all before that one.
begins_down : (e : EndpointRecord) (x y : Named) → named_cmp x y ≡ Less → begins_after e y ≡ true → begins_after e x ≡ true
begins_down e x y l u = by_order (holder_cmp x.endpoint y.endpoint) refl l
  where
    by_order : (o : Ordering) → holder_cmp x.endpoint y.endpoint ≡ o → ordering_then o (name_cmp x.name y.name) ≡ Less →
        begins_after e x ≡ true
    by_order Less q l = ap is_lt (holders_total.trans x.endpoint y.endpoint (Some e) q (less_is (holder_cmp y.endpoint (Some e)) u))
    by_order Equal q l = ap is_lt (holders_total.congr x.endpoint y.endpoint (Some e) q) ∙ u
    by_order Greater q l = absurd (cc)

-- And a label after one above the endpoint doesn't have it.
of_up : (e : EndpointRecord) (x y : Named) → named_cmp x y ≡ Less → holder_cmp x.endpoint (Some e) ≡ Greater → holds_endpoint e y ≡ false
of_up e x y l g = by_order (holds_endpoint e y) refl
  where
    tied : (o : Ordering) → is_eq o ≡ true → o ≡ Equal
    tied Less q = absurd (cc)
    tied Equal q = refl
    tied Greater q = absurd (cc)

    not_greater : (o : Ordering) → o ≡ Greater → ordering_then o (name_cmp x.name y.name) ≡ Less → ⊥
    not_greater Less q l = absurd (cc)
    not_greater Equal q l = absurd (cc)
    not_greater Greater q l = absurd (cc)

    by_order : (b : Bool) → holds_endpoint e y ≡ b → b ≡ false
    by_order false q = refl
    by_order true q =
        let back : holder_cmp (Some e) y.endpoint ≡ Equal =
        holders_total.antisymm (Some e) y.endpoint ∙ ap ordering_reverse (tied (holder_cmp y.endpoint (Some e)) q) in
        let other : holder_cmp (Some e) x.endpoint ≡ Less = holders_total.antisymm (Some e) x.endpoint ∙ ap ordering_reverse g in
        let above : holder_cmp y.endpoint x.endpoint ≡ Less = sym (holders_total.congr (Some e) y.endpoint x.endpoint back) ∙ other in
        absurd (not_greater (holder_cmp x.endpoint y.endpoint) (holders_total.antisymm x.endpoint y.endpoint ∙ ap ordering_reverse above) l)

pub begins_partitioned : (e : EndpointRecord) (xs : List Named) → IsStrictlySortedBy named_cmp xs → IsPartitionedBy (begins_after e) xs
unfolding IsStrictlySortedBy
begins_partitioned e [] s i j d l w h = absurd (omega (arith, w))
begins_partitioned e (x ∷ xs) s zero zero d l w h = h
begins_partitioned e (x ∷ xs) s zero (suc j) d l w h =
    begins_down e x (get_or xs j d) (at (λ y. named_cmp x y ≡ Less) xs j d s.0 (omega (arith, w))) h
begins_partitioned e (x ∷ xs) s (suc i) zero d l w h = absurd (omega (arith, l))
begins_partitioned e (x ∷ xs) s (suc i) (suc j) d l w h = begins_partitioned e xs s.1 i j d (omega (arith, l)) (omega (arith, w)) h

-- the element at the partition point is the first that fails the test
pub first_after : (p : Named → Bool) (xs : List Named) (i : ℕ) → IsPartitionPoint (λ y. p y ≡ true) (λ y. p y ≡ false) xs i →
    slice_get xs i ≡ find (λ y. not (p y)) xs
first_after p [] i h = refl
first_after p (x ∷ xs) zero h = sym (ap (λ b. cond (not b) (Some x) (find (λ y. not (p y)) xs)) (h.1 0 x (omega arith) (omega arith)))
first_after p (x ∷ xs) (suc i) h =
    first_after p xs i
    (λ k d l w. h.0 (suc k) d (omega (arith, l)) (omega (arith, w)), λ k d l w. h.1 (suc k) d (omega (arith, l)) (omega (arith, w)))
    ∙ sym (ap (λ b. cond (not b) (Some x) (find (λ y. not (p y)) xs)) (h.0 0 x (omega arith) (omega arith)))

none_of : (e : EndpointRecord) (x : Named) (xs : List Named) → IsBelow x xs → holder_cmp x.endpoint (Some e) ≡ Greater →
    find (holds_endpoint e) xs ≡ None
none_of e x [] a g = refl
none_of e x (y ∷ ys) a g = ap (λ b. cond b (Some y) (find (holds_endpoint e) ys)) (of_up e x y a.0 g) ∙ none_of e x ys a.1 g

abbrev pub if_of : EndpointRecord → Option Named → Option Named
if_of e None = None
if_of e (Some p) = cond (holds_endpoint e p) (Some p) None

-- The first label after which the endpoint's labels don't begin is the first of them, or there is none.
pub first_found : (e : EndpointRecord) (xs : List Named) → IsStrictlySortedBy named_cmp xs →
    if_of e (find (λ (p : Named). not (begins_after e p)) xs) ≡ find (holds_endpoint e) xs
unfolding IsStrictlySortedBy
first_found e [] s = refl
first_found e (x ∷ xs) s = by_order (holder_cmp x.endpoint (Some e)) refl (first_found e xs s.1)
  where
    by_order : (o : Ordering) → holder_cmp x.endpoint (Some e) ≡ o →
        if_of e (find (λ (p : Named). not (begins_after e p)) xs) ≡ find (holds_endpoint e) xs →
        if_of e (find (λ (p : Named). not (begins_after e p)) (x ∷ xs)) ≡ find (holds_endpoint e) (x ∷ xs)
    by_order Less q rest = ap (λ o. if_of e (cond (not (is_lt o)) (Some x) (find (λ (p : Named). not (begins_after e p)) xs))) q ∙ rest ∙
        sym (ap (λ o. cond (is_eq o) (Some x) (find (holds_endpoint e) xs)) q)
    by_order Equal q rest = ap (λ o. if_of e (cond (not (is_lt o)) (Some x) (find (λ (p : Named). not (begins_after e p)) xs))) q ∙
        ap (λ o. cond (is_eq o) (Some x) None) q ∙
        sym (ap (λ o. cond (is_eq o) (Some x) (find (holds_endpoint e) xs)) q)
    by_order Greater q rest =
        ap (λ o. if_of e (cond (not (is_lt o)) (Some x) (find (λ (p : Named). not (begins_after e p)) xs))) q ∙
        ap (λ o. cond (is_eq o) (Some x) None) q
        ∙ sym (ap (λ o. cond (is_eq o) (Some x) (find (holds_endpoint e) xs)) q ∙ none_of e x xs s.0 q)

-- A label that has the endpoint isn't before its labels; a label before such a one that doesn't have it is.
of_is_not_before : (o : Ordering) → is_eq o ≡ true → is_lt o ≡ false
of_is_not_before Less q = absurd (cc)
of_is_not_before Equal q = refl
of_is_not_before Greater q = absurd (cc)

before_of : (e : EndpointRecord) (x y : Named) → named_cmp x y ≡ Less → holds_endpoint e y ≡ true → holds_endpoint e x ≡ false →
    begins_after e x ≡ true
before_of e x y l of other = by_order (holder_cmp x.endpoint (Some e)) refl
  where
    by_order : (o : Ordering) → holder_cmp x.endpoint (Some e) ≡ o → begins_after e x ≡ true
    by_order Less q = ap is_lt q
    by_order Equal q = opposed (holds_endpoint e x) (ap is_eq q) other
    by_order Greater q = opposed (holds_endpoint e y) of (of_up e x y l q)

-- The label where an endpoint's labels begin is the first of them, if it is one of them.
pub first_by_begin : (e : EndpointRecord) (xs : List Named) (i : ℕ) (o : Option Named) → IsStrictlySortedBy named_cmp xs → IsBegin e xs i →
    o ≡ slice_get xs i → if_of e o ≡ find (holds_endpoint e) xs
first_by_begin e xs i o s begin is = ap (if_of e) (is ∙ first_after (begins_after e) xs i begin) ∙ first_found e xs s

-- A label that has the endpoint, with none before it, or one that doesn't have it.
module _ (e : EndpointRecord) (xs : List Named) (s : IsStrictlySortedBy named_cmp xs) (p : Named) (of : holds_endpoint e p ≡ true) where
  not_before : (i : ℕ) → slice_get xs i ≡ Some p → passes_nth (begins_after e) xs i ≡ false
  not_before i here = ap (λ o. option_map_or (begins_after e) o false) here ∙ of_is_not_before (holder_cmp p.endpoint (Some e)) of

  is_first : (i : ℕ) → slice_get xs i ≡ Some p → IsBegin e xs i → find (holds_endpoint e) xs ≡ Some p
  is_first i here begin = sym (first_by_begin e xs i (Some p) s begin (sym here)) ∙ ap (λ b. cond b (Some p) None) of

  pub first_at_front : (i : ℕ) → i ≡ 0 → slice_get xs i ≡ Some p → find (holds_endpoint e) xs ≡ Some p
  first_at_front i none here =
      let front : slice_get xs 0 ≡ Some p = ap (slice_get xs) (sym none) ∙ here in
      is_first 0 front (point_first (begins_after e) xs (begins_partitioned e xs s) (not_before 0 front))

  pub first_after_other : (i j : ℕ) → j + 1 ≡ i → slice_get xs i ≡ Some p → passes_nth (holds_endpoint e) xs j ≡ false →
      find (holds_endpoint e) xs ≡ Some p
  first_after_other i j next here other =
      let within : i < length xs = slice_get_within xs i p here in
      let there : slice_get xs j ≡ Some (get_or xs j p) = slice_get-get_or xs j p (omega (arith, within, next)) in
      let not_of : holds_endpoint e (get_or xs j p) ≡ false = sym (ap (λ o. option_map_or (holds_endpoint e) o false) there) ∙ other in
      let less : named_cmp (get_or xs j p) p ≡ Less =
      subst (λ (y : Named). named_cmp (get_or xs j p) y ≡ Less) (get_or_from_slice_get xs i p p here)
      (Less-from_sorted named_cmp xs j i p s (omega (arith, next)) within) in
      let low : passes_nth (begins_after e) xs j ≡ true =
      ap (λ o. option_map_or (begins_after e) o false) there ∙ before_of e (get_or xs j p) p less of not_of in
      is_first i here (point_next (begins_after e) xs (begins_partitioned e xs s) i j next low (not_before i here))

pub sorted_nil : IsStrictlySortedBy named_cmp []
unfolding IsStrictlySortedBy
sorted_nil = tt
