-- Items have a top if, in order of arrival, the changes of each key that aren't void have one owner: insert them at
-- their places one by one.
use Rattle.std.proofs.Common.{◌≡◌, Bool, true, false, cond, not, List, [], ◌∷◌, ◌++◌, fold, append_assoc, append-nil, refl, sym, ap, ◌∙◌}
use Rattle.std.proofs.Common.{subst, inl, inr, ◌⊎◌}
use Rattle.std.specs.declared.cmp.Ordering.TheVariants.{Less, Equal}
use Rattle.std.specs.Ordering.{is_lt}
use Rattle.std.specs.List.{Contains, AllByRecursion, filter, list_any}
use Rattle.std.specs.List.Sorted.{IsStrictlySortedBy}
use Rattle.std.proofs.lemmas.List.Elements.{Contains-push, Contains-push_cases, Contains-append_left, Contains-append_right}
use Rattle.std.proofs.lemmas.List.Kept.{IsStrictlySortedBy-filter}
use Rattle.ds_names.proofs.OrderLemmas.{exact_keys}
use Rattle.ds_entry.specs.Change.{ChangeRecord}
use Rattle.ds_entry.specs.Item.{item_cmp}
use Rattle.ds_entry.specs.ItemCovers.{covers, AreSingleNumbered}
use Rattle.ds_entry.specs.Void.{voids, voids_it, is_void, NoneVoid}
use Rattle.ds_entry.specs.declared.item.Item.{Item}
use Rattle.ds_entry.specs.declared.item.Item.TheVariants.{Change as Changed, Floor as Floored}
use Rattle.ds_entry.proofs.Members.{In, In-from_Contains, Contains-from_In, Contains-filter, Contains-from_filter, Contains-from_list_any}
use Rattle.ds_entry.proofs.Members.{Contains-head, none_pass}
use Rattle.ds_entry.proofs.CoversLemmas.{covers-total}
use Rattle.ds_entry.proofs.ItemLemmas.{items_total, covers-refl, covers-trans, floors-total}
use Rattle.ds_join.specs.ItemTop.{IsTop, IsPartOf, CoversAll, FitsOwners, HasOneOwnerInTurn, inserted, held_after, tops}
use Rattle.ds_join.specs.ItemTopLaws.{TopsIsTop, TopExists}
use Rattle.ds_join.proofs.ItemTopLemmas.{top_of_nothing}
use Rattle.std.proofs.lemmas.Bool.{not-true}
use Rattle.ds_names.proofs.Tests.{opposed, less_is, turned}

inserted-among : (c : Item) (xs : List Item) (e : Item) → In e (inserted c xs) → (e ≡ c) ⊎ In e xs
inserted-among c [] e h = h
inserted-among c (d ∷ ds) e h = by_test (is_lt (item_cmp c d)) h (inserted-among c ds e)
  where
    by_test : (b : Bool) → In e (cond b (c ∷ d ∷ ds) (d ∷ inserted c ds)) → (In e (inserted c ds) → (e ≡ c) ⊎ In e ds) →
        (e ≡ c) ⊎ In e (d ∷ ds)
    by_test true h rest = h
    by_test false (inl q) rest = inr (inl q)
    by_test false (inr k) rest = elim (rest k) [ inl q ↦ inl q | inr q ↦ inr (inr q) ]

inserted-new : (c : Item) (xs : List Item) → In c (inserted c xs)
inserted-new c [] = inl refl
inserted-new c (d ∷ ds) = elim (is_lt (item_cmp c d)) as (λ b. In c (cond b (c ∷ d ∷ ds) (d ∷ inserted c ds)))
    [ true ↦ inl refl | false ↦ inr (inserted-new c ds) ]

inserted-old : (c : Item) (xs : List Item) (e : Item) → In e xs → In e (inserted c xs)
inserted-old c [] e h = absurd h
inserted-old c (d ∷ ds) e h = by_test (is_lt (item_cmp c d)) h (inserted-old c ds e)
  where
    by_test : (b : Bool) → In e (d ∷ ds) → (In e ds → In e (inserted c ds)) → In e (cond b (c ∷ d ∷ ds) (d ∷ inserted c ds))
    by_test true h rest = inr h
    by_test false (inl q) rest = inl q
    by_test false (inr k) rest = inr (rest k)

-- ---- the order stays
abbrev IsBelow : Item → List Item → Type 0
IsBelow x xs = AllByRecursion (λ y. item_cmp x y ≡ Less) xs

below_further : (x y : Item) (ds : List Item) → item_cmp x y ≡ Less → IsBelow y ds → IsBelow x ds
below_further x y [] h a = tt
below_further x y (d ∷ ds) h a = (items_total.trans x y d h a.0, below_further x y ds h a.1)

below_inserted : (x c : Item) (xs : List Item) → item_cmp x c ≡ Less → IsBelow x xs → IsBelow x (inserted c xs)
below_inserted x c [] h a = (h, tt)
below_inserted x c (d ∷ ds) h a =
    elim (is_lt (item_cmp c d)) as (λ b. IsBelow x (cond b (c ∷ d ∷ ds) (d ∷ inserted c ds)))
    [ true ↦ (h, a) | false ↦ (a.0, below_inserted x c ds h a.1) ]

inserted-in_order : (c : Item) (xs : List Item) → IsStrictlySortedBy item_cmp xs → ((d : Item) → In d xs → item_cmp c d ≡ Equal → ⊥) →
    IsStrictlySortedBy item_cmp (inserted c xs)
unfolding IsStrictlySortedBy
inserted-in_order c [] s n = (tt, tt)
inserted-in_order c (d ∷ ds) s n = by_test (is_lt (item_cmp c d)) refl (inserted-in_order c ds s.1 (λ e h. n e (inr h)))
  where
    by_test : (b : Bool) → is_lt (item_cmp c d) ≡ b → IsStrictlySortedBy item_cmp (inserted c ds) →
        IsStrictlySortedBy item_cmp (cond b (c ∷ d ∷ ds) (d ∷ inserted c ds))
    by_test true e rest = let l : item_cmp c d ≡ Less = less_is (item_cmp c d) e in ((l, below_further c d ds l s.0), s)
    by_test false e rest = (below_inserted d c ds (items_total.antisymm d c ∙ turned (item_cmp c d) e (n d (inl refl))) s.0, rest)

-- If no held floor voids a change, none of the set does.
not_void : (set held : List Item) → IsTop held set → (c : ChangeRecord) → ((x : Item) → Contains held x → voids_it c x ≡ false) →
    is_void set c ≡ false
not_void set held t c none = by_test (is_void set c) refl
  where
    over_by : (x y : Item) → Contains held y → covers y x ≡ true → voids_it c x ≡ true → ⊥
    over_by (Changed x) y k h v = let n : false ≡ true = v in cc
    over_by (Floored f) (Changed y) k h v = let n : false ≡ true = h in cc
    over_by (Floored f) (Floored g) k h v = opposed (voids g c) (covers-trans (Floored g) (Floored f) (Changed c) h v) (none (Floored g) k)

    by_test : (b : Bool) → is_void set c ≡ b → b ≡ false
    by_test true e =
        let x = Contains-from_list_any (voids_it c) set e in
        let y = t.greatest x.0 x.1 in
        absurd (over_by x.0 y.0 y.1 y.2 x.2)
    by_test false e = refl

-- ---- one more item, which none that is held covers
module _ (c : Item) (held set : List Item) (owners : FitsOwners set c) (t : IsTop held set) (e : list_any (λ d. covers d c) held ≡ false)
  where
    kept_held : (d : Item) → Contains (filter (λ d. not (covers c d)) held) d → Contains held d × (covers c d ≡ false)
    kept_held d h = let k = Contains-from_filter (λ (d : Item). not (covers c d)) held d h in (k.0, not-true (covers c d) k.1)

    in_set : (d : Item) → Contains held d → Contains (set ++ c ∷ []) d
    in_set d h = Contains-append_left set (c ∷ []) d (t.among d h)

    -- a held change isn't void in the set
    held_not_void : (d : ChangeRecord) → Contains held (Changed d) → is_void set d ≡ false
    held_not_void d h = not_void set held t d by_kind
      where
        by_kind : (x : Item) → Contains held x → voids_it d x ≡ false
        by_kind (Changed x) k = refl
        by_kind (Floored f) k = t.none_void f d k h

    -- nor is a change that none that is held covers
    new_not_void : (d : ChangeRecord) → c ≡ Changed d → is_void set d ≡ false
    new_not_void d is = not_void set held t d (λ x k.
        by_kind x (subst (λ (z : Item). covers x z ≡ false) is (none_pass (λ (x : Item). covers x c) held x e k)))
      where
        by_kind : (x : Item) → covers x (Changed d) ≡ false → voids_it d x ≡ false
        by_kind (Changed x) n = refl
        by_kind (Floored f) n = n

    -- a held item at its place is covered by it
    covers_tied : (d : Item) → Contains held d → item_cmp c d ≡ Equal → covers c d ≡ true
    covers_tied d h q = at_place c d refl owners h q (none_pass (λ (x : Item). covers x c) held d e h)
      where
        at_place : (i j : Item) → c ≡ i → FitsOwners set i → Contains held j → item_cmp i j ≡ Equal → covers j i ≡ false → covers i j ≡ true
        at_place (Changed x) (Changed y) is fits h q n =
            let same : x.key ≡ y.key = exact_keys x.key y.key q in
            covers-total x y same (fits y (t.among (Changed y) h) (new_not_void x is) (held_not_void y h) same) n
        at_place (Changed x) (Floored y) is fits h q n = cc
        at_place (Floored x) (Changed y) is fits h q n = cc
        at_place (Floored x) (Floored y) is fits h q n = floors-total x y q n

    new_in_order : IsStrictlySortedBy item_cmp (inserted c (filter (λ d. not (covers c d)) held))
    new_in_order =
        inserted-in_order c (filter (λ d. not (covers c d)) held)
        (IsStrictlySortedBy-filter item_cmp (λ d. not (covers c d)) held t.in_order)
        (λ d h q. let k = kept_held d (Contains-from_In d (filter (λ d. not (covers c d)) held) h) in
        opposed (covers c d) (covers_tied d k.0 q) k.1)

    new_has : Contains (inserted c (filter (λ d. not (covers c d)) held)) c
    new_has = Contains-from_In c (inserted c (filter (λ d. not (covers c d)) held)) (inserted-new c (filter (λ d. not (covers c d)) held))

    new_keeps : (d : Item) → Contains held d → covers c d ≡ false → Contains (inserted c (filter (λ d. not (covers c d)) held)) d
    new_keeps d h q =
        Contains-from_In d (inserted c (filter (λ d. not (covers c d)) held))
        (inserted-old c (filter (λ d. not (covers c d)) held) d
        (In-from_Contains d (filter (λ d. not (covers c d)) held) (Contains-filter (λ (x : Item). not (covers c x)) held d h (ap not q))))

    new_among : IsPartOf (inserted c (filter (λ d. not (covers c d)) held)) (set ++ c ∷ [])
    new_among d h =
        elim (inserted-among c (filter (λ d. not (covers c d)) held) d
        (In-from_Contains d (inserted c (filter (λ d. not (covers c d)) held)) h)) [
          | inl q ↦ subst (λ (z : Item). Contains (set ++ c ∷ []) z) (sym q) (Contains-push set c)
          | inr k ↦ in_set d (kept_held d (Contains-from_In d (filter (λ d. not (covers c d)) held) k)).0
        ]

    new_greatest : CoversAll (inserted c (filter (λ d. not (covers c d)) held)) (set ++ c ∷ [])
    new_greatest x h = elim (Contains-push_cases set c x h) [
      | inl k ↦ let d = t.greatest x k in over d.0 d.1 d.2 (covers c d.0) refl
      | inr q ↦ (c, new_has, subst (λ (z : Item). covers c z ≡ true) q (covers-refl c))
    ]
      where
        over : (d : Item) → Contains held d → covers d x ≡ true → (b : Bool) → covers c d ≡ b →
            (f : Item) × Contains (inserted c (filter (λ d. not (covers c d)) held)) f × (covers f x ≡ true)
        over d k q true r = (c, new_has, covers-trans c d x r q)
        over d k q false r = (d, new_keeps d k r, q)

    new_cases : (d : Item) → Contains (inserted c (filter (λ d. not (covers c d)) held)) d →
        (d ≡ c) ⊎ (Contains held d × (covers c d ≡ false))
    new_cases d h =
        elim (inserted-among c (filter (λ d. not (covers c d)) held) d
        (In-from_Contains d (inserted c (filter (λ d. not (covers c d)) held)) h)) [
          | inl q ↦ inl q
          | inr k ↦ inr (kept_held d (Contains-from_In d (filter (λ d. not (covers c d)) held) k))
        ]

    new_none_void : NoneVoid (inserted c (filter (λ d. not (covers c d)) held))
    new_none_void f x h k = by_place (new_cases (Floored f) h) (new_cases (Changed x) k)
      where
        by_place : (Floored f ≡ c) ⊎ (Contains held (Floored f) × (covers c (Floored f) ≡ false)) →
            (Changed x ≡ c) ⊎ (Contains held (Changed x) × (covers c (Changed x) ≡ false)) → voids f x ≡ false
        by_place (inl q) (inl r) = absurd (let y : Floored f ≡ Changed x = q ∙ sym r in cc)
        by_place (inl q) (inr r) = subst (λ (z : Item). covers z (Changed x) ≡ false) (sym q) r.1
        by_place (inr q) (inl r) = subst (λ (z : Item). covers (Floored f) z ≡ false) (sym r)
            (none_pass (λ (x : Item). covers x c) held (Floored f) e q.0)
        by_place (inr q) (inr r) = t.none_void f x q.0 r.0

    top_inserted : IsTop (inserted c (filter (λ d. not (covers c d)) held)) (set ++ c ∷ [])
    top_inserted = record { in_order = new_in_order; among = new_among; greatest = new_greatest; none_void = new_none_void }

pub top_held_after : (c : Item) (held set : List Item) → FitsOwners set c → IsTop held set → IsTop (held_after held c) (set ++ c ∷ [])
top_held_after c held set owners t = by_test (list_any (λ d. covers d c) held) refl
  where
    by_test : (b : Bool) → list_any (λ d. covers d c) held ≡ b →
        IsTop (cond b held (inserted c (filter (λ d. not (covers c d)) held))) (set ++ c ∷ [])
    by_test true e =
        let d = Contains-from_list_any (λ (d : Item). covers d c) held e in
        record {
          in_order = t.in_order;
          among = λ x h. Contains-append_left set (c ∷ []) x (t.among x h);
          greatest = λ x h. elim (Contains-push_cases set c x h)
              [ inl k ↦ t.greatest x k | inr q ↦ (d.0, d.1, subst (λ (z : Item). covers d.0 z ≡ true) q d.2) ];
          none_void = t.none_void;
        }
    by_test false e = top_inserted c held set owners t e

top_of_all : (held set more : List Item) → ((front back : List Item) (i : Item) → more ≡ front ++ i ∷ back → FitsOwners (set ++ front) i) →
    IsTop held set → IsTop (fold held_after held more) (set ++ more)
top_of_all held set [] owners t = subst (IsTop held) (sym (append-nil set)) t
top_of_all held set (c ∷ more) owners t =
    let grouped : (set ++ c ∷ []) ++ more ≡ set ++ c ∷ more = append_assoc set (c ∷ []) more in
    let first : FitsOwners set c = subst (λ l. FitsOwners l c) (append-nil set) (owners [] more c refl) in
    let later : (front back : List Item) (i : Item) → more ≡ front ++ i ∷ back →
    FitsOwners ((set ++ c ∷ []) ++ front) i = λ front back i q. subst (λ l. FitsOwners l i) (sym (append_assoc set (c ∷ []) front))
    (owners (c ∷ front) back i (ap (λ l. c ∷ l) q)) in
    subst (IsTop (fold held_after (held_after held c) more)) grouped
    (top_of_all (held_after held c) (set ++ c ∷ []) more later (top_held_after c held set first t))

pub tops_is_top : TopsIsTop
tops_is_top items owners = top_of_all [] [] items owners top_of_nothing

-- In a single-numbered list each key has one owner, in any order of arrival.
pub single_in_turn : (set : List Item) → AreSingleNumbered set → HasOneOwnerInTurn set
single_in_turn set n front back (Floored f) q = tt
single_in_turn set n front back (Changed c) q =
    λ d h v w e. n.one_owner c d (subst (λ l. Contains l (Changed c)) (sym q)
    (Contains-append_right front (Changed c ∷ back) (Changed c) (Contains-head (Changed c) back)))
    (subst (λ l. Contains l (Changed d)) (sym q) (Contains-append_left front (Changed c ∷ back) (Changed d) h)) e

pub top_exists : TopExists
top_exists set single = (tops set, tops_is_top set (single_in_turn set single))
