-- Where a page ends, the next one begins.
use Rattle.std.proofs.Common.{◌≡◌, ℕ, zero, suc, min, not, Bool, true, false, cond, List, [], ◌∷◌, ◌++◌, length, take, drop, filter, Option}
use Rattle.std.proofs.Common.{Some, None, refl, sym, ap, ◌∙◌, subst, inl, inr, ◌⊎◌}
use Rattle.std.specs.declared.cmp.Ordering.{Ordering}
use Rattle.std.specs.declared.cmp.Ordering.TheVariants.{Less, Equal, Greater}
use Rattle.std.specs.Ordering.{is_lt, ordering_reverse}
use Rattle.std.specs.List.{slice_get, AllByRecursion, Contains}
use Rattle.std.specs.List.Sorted.{IsStrictlySortedBy}
use Rattle.std.proofs.lemmas.Cmp.{tied_itself}
use Rattle.std.proofs.lemmas.List.{drop_min, length-take}
use Rattle.std.proofs.lemmas.List.Kept.{IsStrictlySortedBy-filter}
use Rattle.ds_names.specs.declared.key.Key.{Key}
use Rattle.ds_names.specs.Key.{key_cmp}
use Rattle.ds_names.proofs.OrderLemmas.{keys_total}
use Rattle.ds_entry.specs.Change.{ChangeRecord}
use Rattle.ds_entry.specs.Item.{item_cmp}
use Rattle.ds_entry.specs.declared.item.Item.{Item}
use Rattle.ds_entry.specs.declared.item.Item.TheVariants.{Change as Changed, Floor as Floored}
use Rattle.ds_entry.proofs.Members.{Contains-head, Contains-tail, Contains-from_filter}
use Rattle.ds_feed.specs.Page.{is_floor, is_after_key, still_to_come, floors_of, changes_of}
use Rattle.ds_feed.specs.Laws.{PagesGoOn}

-- ---- lists

-- What passes the narrower test is among what passes the wider one.
narrowed : (narrow wide : Item → Bool) → ((i : Item) → narrow i ≡ true → wide i ≡ true) → (xs : List Item) →
    filter narrow (filter wide xs) ≡ filter narrow xs
narrowed narrow wide h [] = refl
narrowed narrow wide h (x ∷ xs) = at (narrow x) (wide x) refl refl (narrowed narrow wide h xs)
  where
    at : (n w : Bool) → narrow x ≡ n → wide x ≡ w → filter narrow (filter wide xs) ≡ filter narrow xs →
        filter narrow (cond w (x ∷ filter wide xs) (filter wide xs)) ≡ cond n (x ∷ filter narrow xs) (filter narrow xs)
    at true true e k rest = rw e (ap (λ (l : List Item). x ∷ l) rest)
    at true false e k rest = let t : true ≡ false = sym (h x e) ∙ k in absurd (cc)
    at false true e k rest = rw e rest
    at false false e k rest = rest

-- where all pass, all are kept
all_pass : (test : Item → Bool) (xs : List Item) → AllByRecursion (λ x. test x ≡ true) xs → filter test xs ≡ xs
all_pass test [] a = refl
all_pass test (x ∷ xs) a = rw a.0 (ap (λ (l : List Item). x ∷ l) (all_pass test xs a.1))

along : (P Q : Item → Type 0) → ((x : Item) → P x → Q x) → (xs : List Item) → AllByRecursion P xs → AllByRecursion Q xs
along P Q h [] a = tt
along P Q h (x ∷ xs) a = (h x a.0, along P Q h xs a.1)

at_place : (P : Item → Type 0) (xs : List Item) (n : ℕ) (x : Item) → AllByRecursion P xs → slice_get xs n ≡ Some x → P x
at_place P [] n x a e = cc
at_place P (y ∷ ys) zero x a e = let h : y ≡ x = cc in subst P h a.0
at_place P (y ∷ ys) (suc n) x a e = at_place P ys n x a.1 e

-- The last item of two joined lists is the last of the second one, or the second one is empty.
last_of_both : (xs ys front : List Item) (x : Item) → xs ++ ys ≡ front ++ x ∷ [] →
    Contains xs x ⊎ ((n : ℕ) × (length ys ≡ suc n) × (slice_get ys n ≡ Some x))
last_of_both [] ys front x e = inr
    (length front, ap length e ∙ counted front, ap (λ (l : List Item). slice_get l (length front)) e ∙ there front)
  where
    counted : (l : List Item) → length (l ++ x ∷ []) ≡ suc (length l)
    counted [] = refl
    counted (y ∷ l) = ap suc (counted l)

    there : (l : List Item) → slice_get (l ++ x ∷ []) (length l) ≡ Some x
    there [] = refl
    there (y ∷ l) = there l
last_of_both (y ∷ xs) ys [] x e = let h : y ≡ x = cc in inl (subst (λ (z : Item). Contains (y ∷ xs) z) h (Contains-head y xs))
last_of_both (y ∷ xs) ys (z ∷ front) x e =
    let tail : xs ++ ys ≡ front ++ x ∷ [] = cc in
    elim (last_of_both xs ys front x tail) [
      | inl h ↦ inl (Contains-tail y xs x h)
      | inr h ↦ inr h
    ]

taken_at : (n m : ℕ) (xs : List Item) (x : Item) → slice_get (take n xs) m ≡ Some x → slice_get xs m ≡ Some x
taken_at zero m xs x e = cc
taken_at (suc n) m [] x e = cc
taken_at (suc n) zero (y ∷ ys) x e = e
taken_at (suc n) (suc m) (y ∷ ys) x e = taken_at n m ys x e

pub contains_at : (xs : List Item) (n : ℕ) (x : Item) → slice_get xs n ≡ Some x → Contains xs x
contains_at [] n x e = cc
contains_at (y ∷ ys) zero x e = let h : y ≡ x = cc in subst (λ (z : Item). Contains (y ∷ ys) z) h (Contains-head y ys)
contains_at (y ∷ ys) (suc n) x e = Contains-tail y ys x (contains_at ys n x e)

-- ---- what is after a key

not_after_itself : (k : Key) → is_lt (key_cmp k k) ≡ false
not_after_itself k = rw (tied_itself keys_total k) refl

-- An item before a change isn't after its key.
before : (x : Item) (c : ChangeRecord) → item_cmp x (Changed c) ≡ Less → is_after_key (Some c.key) x ≡ false
before (Changed d) c e =
    let h : key_cmp c.key d.key ≡ Greater = keys_total.antisymm c.key d.key ∙ ap ordering_reverse e in
    rw h refl
before (Floored f) c e = refl

-- An item after a change is after its key.
after_it : (c : ChangeRecord) (x : Item) → item_cmp (Changed c) x ≡ Less → is_after_key (Some c.key) x ≡ true
after_it c (Changed d) e = ap is_lt e
after_it c (Floored f) e = cc

-- The items after the key of a change in an ordered list are those that follow it.
follows : (xs : List Item) (n : ℕ) (c : ChangeRecord) → IsStrictlySortedBy item_cmp xs → slice_get xs n ≡ Some (Changed c) →
    filter (is_after_key (Some c.key)) xs ≡ drop (suc n) xs
unfolding IsStrictlySortedBy
follows [] n c s e = cc
follows (x ∷ xs) zero c s e =
    let h : x ≡ Changed c = cc in
    let here : is_after_key (Some c.key) x ≡ false = ap (is_after_key (Some c.key)) h ∙ not_after_itself c.key in
    let rest : AllByRecursion (λ y. is_after_key (Some c.key) y ≡ true) xs =
    along (λ y. item_cmp x y ≡ Less) (λ y. is_after_key (Some c.key) y ≡ true)
    (λ y l. after_it c y (subst (λ (z : Item). item_cmp z y ≡ Less) h l)) xs s.0 in
    rw here (all_pass (is_after_key (Some c.key)) xs rest)
follows (x ∷ xs) (suc n) c s e =
    let here : is_after_key (Some c.key) x ≡ false = before x c (at_place (λ y. item_cmp x y ≡ Less) xs n (Changed c) s.0 e) in
    rw here (follows xs n c s.1 e)

-- What is after a key that is after another one is after that one too.
further : (after : Option Key) (c : ChangeRecord) → is_after_key after (Changed c) ≡ true → (i : Item) →
    is_after_key (Some c.key) i ≡ true → is_after_key after i ≡ true
further None c h i k = refl
further (Some a) c h (Floored f) k = cc
further (Some a) c h (Changed d) k = ap is_lt (keys_total.trans a c.key d.key (less (key_cmp a c.key) h) (less (key_cmp c.key d.key) k))
  where
    less : (o : Ordering) → is_lt o ≡ true → o ≡ Less
    less Less e = refl
    less Equal e = cc
    less Greater e = cc

no_floor : (c : ChangeRecord) (i : Item) → is_after_key (Some c.key) i ≡ true → not (is_floor i) ≡ true
no_floor c (Changed d) k = refl
no_floor c (Floored f) k = cc

pub pages_go_on : PagesGoOn
pages_go_on test after max held cursor front c s e = at_end (last_of_both (floors_of rest) (take max changes) front (Changed c) e)
  where
    rest : List Item
    rest = still_to_come test after held

    changes : List Item
    changes = changes_of rest

    past : Item → Bool
    past = is_after_key (Some c.key)

    in_order : IsStrictlySortedBy item_cmp changes
    in_order = IsStrictlySortedBy-filter item_cmp (λ i. not (is_floor i)) rest
        (IsStrictlySortedBy-filter item_cmp (is_after_key after) (filter test held) (IsStrictlySortedBy-filter item_cmp test held s))

    at_change : (n : ℕ) → length (take max changes) ≡ suc n → slice_get changes n ≡ Some (Changed c) →
        filter past (filter test held) ≡ drop max changes
    at_change n l h =
        let there = Contains-from_filter (λ i. not (is_floor i)) rest (Changed c) (contains_at changes n (Changed c) h) in
        let passes = (Contains-from_filter (is_after_key after) (filter test held) (Changed c) there.0).1 in
        let count : suc n ≡ min max (length changes) = sym l ∙ length-take max changes in
        sym (narrowed past (is_after_key after) (further after c passes) (filter test held)) ∙
        (sym (narrowed past (λ i. not (is_floor i)) (no_floor c) rest) ∙
        (follows changes n c in_order h ∙ (ap (λ (k : ℕ). drop k changes) count ∙ drop_min max changes)))

    at_end : Contains (floors_of rest) (Changed c) ⊎
        ((n : ℕ) × (length (take max changes) ≡ suc n) × (slice_get (take max changes) n ≡ Some (Changed c))) →
        filter past (filter test held) ≡ drop max changes
    at_end (inl h) = let t : false ≡ true = (Contains-from_filter is_floor rest (Changed c) h).1 in absurd (cc)
    at_end (inr h) = at_change h.0 h.1 (taken_at max h.0 changes (Changed c) h.2)
