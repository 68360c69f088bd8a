-- Changes one by one, in the order of the keys.
use Rattle.std.proofs.Common.{◌≡◌, ℕ, zero, suc, ◌<◌, List, [], ◌∷◌, length, get_or, filter, Bool, true, false, cond, not, Option, Some}
use Rattle.std.proofs.Common.{None, refl, sym, ap, ◌∙◌, subst, arith, Contains}
use Rattle.std.proofs.lemmas.Option.{same_Some}
use Rattle.std.specs.declared.cmp.Ordering.TheVariants.{Less, Greater}
use Rattle.std.specs.Ordering.{is_lt, ordering_reverse}
use Rattle.std.specs.Cmp.{tied_itself}
use Rattle.std.specs.List.{find, slice_get, AllByRecursion}
use Rattle.std.specs.List.Sorted.{IsStrictlySortedBy, IsPartitionedBy, IsPartitionPoint}
use Rattle.ds_names.specs.declared.key.Key.{Key}
use Rattle.ds_names.specs.Key.{key_cmp}
use Rattle.ds_names.proofs.OrderLemmas.{keys_total}
use Rattle.ds_entry.specs.Change.{ChangeRecord}
use Rattle.ds_entry.specs.Covers.{change_cmp}
use Rattle.ds_entry.proofs.Members.{In-from_Contains, Contains-head, Contains-tail}
use Rattle.ds_join.specs.Reading.{is_after, comes_after}
use Rattle.ds_names.proofs.Tests.{opposed, less_is}
use Rattle.ds_entry.proofs.OrderedLemmas.{from_along}

turned_less : (a b : Key) → key_cmp a b ≡ Less → key_cmp b a ≡ Greater
turned_less a b h = keys_total.antisymm b a ∙ ap ordering_reverse h

-- each of what follows comes after the first
rest_after : (x : ChangeRecord) (xs : List ChangeRecord) → IsStrictlySortedBy change_cmp (x ∷ xs) → (d : ChangeRecord) → Contains xs d →
    key_cmp x.key d.key ≡ Less
unfolding IsStrictlySortedBy
rest_after x xs s d h = from_along (λ (y : ChangeRecord). change_cmp x y ≡ Less) xs d s.0 (In-from_Contains d xs h)

rest_in_order : (x : ChangeRecord) (xs : List ChangeRecord) → IsStrictlySortedBy change_cmp (x ∷ xs) → IsStrictlySortedBy change_cmp xs
unfolding IsStrictlySortedBy
rest_in_order x xs s = s.1

-- ---- what is left after each
filter_all : (p : ChangeRecord → Bool) (xs : List ChangeRecord) → ((d : ChangeRecord) → Contains xs d → p d ≡ true) → filter p xs ≡ xs
filter_all p [] h = refl
filter_all p (x ∷ xs) h = ap (λ b. cond b (x ∷ filter p xs) (filter p xs)) (h x (Contains-head x xs)) ∙
    ap (λ l. x ∷ l) (filter_all p xs (λ d i. h d (Contains-tail x xs d i)))

pub all_after_none : (xs : List ChangeRecord) → filter (comes_after None) xs ≡ xs
all_after_none xs = filter_all (comes_after None) xs (λ d i. refl)

pub none_left : (p : ChangeRecord → Bool) (xs : List ChangeRecord) → find p xs ≡ None → filter p xs ≡ []
none_left p [] h = refl
none_left p (x ∷ xs) h = elim (p x) as (λ b. cond b (Some x) (find p xs) ≡ None → cond b (x ∷ filter p xs) (filter p xs) ≡ [])
    [ true ↦ λ s. absurd (cc) | false ↦ λ s. none_left p xs s ] h

pub found_among : (p : ChangeRecord → Bool) (xs : List ChangeRecord) (c : ChangeRecord) → find p xs ≡ Some c → Contains xs c
found_among p [] c h = absurd (cc)
found_among p (x ∷ xs) c h =
    elim (p x) as (λ b. cond b (Some x) (find p xs) ≡ Some c → Contains (x ∷ xs) c) [
      | true ↦ λ s. subst (λ (y : ChangeRecord). Contains (x ∷ xs) y) (same_Some x c s) (Contains-head x xs)
      | false ↦ λ s. Contains-tail x xs c (found_among p xs c s)
    ] h

after_through : (low : Option Key) (a b : Key) → is_after a low ≡ true → key_cmp a b ≡ Less → is_after b low ≡ true
after_through None a b h less = refl
after_through (Some low) a b h less = ap is_lt (keys_total.trans low a b (less_is (key_cmp low a) h) less)

-- the first, and then what comes after it
pub left_after : (low : Option Key) (xs : List ChangeRecord) (c : ChangeRecord) → IsStrictlySortedBy change_cmp xs →
    find (comes_after low) xs ≡ Some c → filter (comes_after low) xs ≡ c ∷ filter (comes_after (Some c.key)) xs
left_after low [] c sorted h = absurd (cc)
left_after low (x ∷ xs) c sorted h =
    elim (comes_after low x) as (λ b. comes_after low x ≡ b → cond b (Some x) (find (comes_after low) xs) ≡ Some c →
    cond b (x ∷ filter (comes_after low) xs) (filter (comes_after low) xs) ≡ c ∷ filter (comes_after (Some c.key)) (x ∷ xs)) [
      | true ↦ λ t s. subst (λ (y : ChangeRecord). x ∷ filter (comes_after low) xs ≡ y ∷ filter (comes_after (Some y.key)) (x ∷ xs))
          (same_Some x c s) (ap (λ l. x ∷ l) (
          filter_all (comes_after low) xs (λ d i. after_through low x.key d.key t (rest_after x xs sorted d i))
          ∙ sym (ap (λ r. cond (is_lt r) (x ∷ filter (comes_after (Some x.key)) xs) (filter (comes_after (Some x.key)) xs))
          (tied_itself keys_total x.key) ∙
          filter_all (comes_after (Some x.key)) xs (λ d i. ap is_lt (rest_after x xs sorted d i)))))
      | false ↦ λ t s.
          left_after low xs c (rest_in_order x xs sorted) s
          ∙ ap (λ l. c ∷ l) (sym (ap (λ r. cond (is_lt r) (x ∷ filter (comes_after (Some c.key)) xs)
          (filter (comes_after (Some c.key)) xs))
          (turned_less x.key c.key (rest_after x xs sorted c (found_among (comes_after low) xs c s)))))
    ] refl h

-- ---- the first that comes after a key

-- A key before one that doesn't come after another doesn't either.
not_after_down : (low : Option Key) (a b : Key) → key_cmp a b ≡ Less → not (is_after b low) ≡ true → not (is_after a low) ≡ true
not_after_down low a b less h = by_test (is_after a low) refl
  where
    by_test : (t : Bool) → is_after a low ≡ t → not t ≡ true
    by_test false e = refl
    by_test true e = opposed (not (is_after b low)) h (ap not (after_through low a b e less))

at : (P : ChangeRecord → Type 0) (xs : List ChangeRecord) (j : ℕ) (d : ChangeRecord) → AllByRecursion P xs → j < length xs →
    P (get_or xs j d)
at P [] j d a l = absurd (omega (arith, l))
at P (x ∷ xs) zero d a l = a.0
at P (x ∷ xs) (suc j) d a l = at P xs j d a.1 (omega (arith, l))

-- Those that don't come after a key are at the front.
pub after_partitioned : (low : Option Key) (xs : List ChangeRecord) → IsStrictlySortedBy change_cmp xs →
    IsPartitionedBy (λ (c : ChangeRecord). not (comes_after low c)) xs
unfolding IsStrictlySortedBy
after_partitioned low [] s i j d l w h = absurd (omega (arith, w))
after_partitioned low (x ∷ xs) s zero zero d l w h = h
after_partitioned low (x ∷ xs) s zero (suc j) d l w h =
    not_after_down low x.key (get_or xs j d).key (at (λ (y : ChangeRecord). change_cmp x y ≡ Less) xs j d s.0 (omega (arith, w))) h
after_partitioned low (x ∷ xs) s (suc i) zero d l w h = absurd (omega (arith, l))
after_partitioned low (x ∷ xs) s (suc i) (suc j) d l w h = after_partitioned low xs s.1 i j d (omega (arith, l)) (omega (arith, w)) h

-- After those that fail a test comes the first that passes it.
pub first_after : (p : ChangeRecord → Bool) (xs : List ChangeRecord) (i : ℕ) →
    IsPartitionPoint (λ y. not (p y) ≡ true) (λ y. not (p y) ≡ false) xs i → slice_get xs i ≡ find p xs
first_after p [] i h = refl
first_after p (x ∷ xs) zero h = by_test (p x) refl
  where
    by_test : (b : Bool) → p x ≡ b → Some x ≡ find p (x ∷ xs)
    by_test true e = sym (ap (λ b. cond b (Some x) (find p xs)) e)
    by_test false e = opposed (not (p x)) (ap not e) (h.1 0 x (omega arith) (omega arith))
first_after p (x ∷ xs) (suc i) h =
    first_after p xs i
    (λ k d l w. h.0 (suc k) d (omega (arith, l)) (omega (arith, w)), λ k d l w. h.1 (suc k) d (omega (arith, l)) (omega (arith, w)))
    ∙ sym (ap (λ b. cond b (Some x) (find p xs)) (not_true (p x) (h.0 0 x (omega arith) (omega arith))))
  where
    not_true : (b : Bool) → not b ≡ true → b ≡ false
    not_true true e = absurd (cc)
    not_true false e = refl
