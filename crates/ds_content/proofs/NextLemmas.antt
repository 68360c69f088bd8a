-- The next item that is still to be shown, by the masks.
use Rattle.std.proofs.Common.{◌≡◌, ℕ, zero, suc, ◌+◌, ◌-◌, ◌<◌, ◌≤◌, ◌⊎◌, Bool, true, false, cond, List, [], ◌∷◌, length, take, filter, map}
use Rattle.std.proofs.Common.{length-append, get_or, Option, Some, None, refl, ap, sym, ◌∙◌, subst, inl, inr, arith}
use Rattle.std.specs.Prelude.{slice_get}
use Rattle.std.specs.Option.{option_map, IfSome}
use Rattle.std.proofs.lemmas.List.{length-map}
use Rattle.std.proofs.lemmas.Option.{same_Some, slice_get_within, slice_get_cases}
use Rattle.ds_entry.specs.Change.{ChangeRecord}
use Rattle.ds_entry.specs.declared.item.Item.{Item}
use Rattle.ds_entry.specs.declared.item.Item.TheVariants.{Change as Changed, Floor as Floored}
use Rattle.ds_held.specs.Held.{Holding, held_items, held_changes, held_floors, held_count, floor_count, change_item}
use Rattle.ds_held.specs.Kept.{floored}
use Rattle.ds_held.proofs.HeldLemmas.{count_is}
use Rattle.ds_index.specs.Marked.{MarkedHolding, AreMarks, AreFloorMarks}
use Rattle.ds_watch.specs.declared.masks.Masks.{Masks}
use Rattle.ds_content.specs.Kept.{ArePending, masks_at}
use Rattle.ds_content.specs.Shown.{says_unseen, is_to_show, AreFirst, IsNext}
use Rattle.ds_content.proofs.FlagLemmas.{below_or_not, below_or_at, index_among, few_taken}
use Rattle.ds_content.proofs.HoldingLemmas.{count_floors, items_floored, floor_item_at, change_item_at}
use Rattle.ds_content.proofs.IndexLemmas.{flag_is}

-- a list of n elements has one at each index below n
there_below : {X : Type 0} (xs : List X) (k n : ℕ) → length xs ≡ n → k < n → (x : X) × (slice_get xs k ≡ Some x)
there_below xs k n e l = elim (slice_get_cases xs k).1 [
  | inl w ↦ (w.0, w.2)
  | inr none ↦ absurd (omega (arith, none.0, e, l))
]

-- ---- the masks beside the item at an index
module _ (h : MarkedHolding Masks) (sub : ℕ) where
  pub record Beside (ms : List Masks) (k : ℕ) (i : Item) : Type 0 where
    pub masks : Masks
    pub here : slice_get ms k ≡ Some masks
    pub says : says_unseen sub masks ≡ is_to_show h sub i

  beside_by : (ms : List Masks) (k : ℕ) (i : Item) → k < length ms → slice_get ms k ≡ masks_at h i → Beside ms k i
  beside_by ms k i l e =
      let r = there_below ms k (length ms) refl l in
      record { masks = r.0; here = r.1; says = flag_is h k sub r.0 i (sym r.1 ∙ e) }

  module _ (fms : List Masks) (floors : AreFloorMarks h fms) where
    few_floors : length fms ≡ floor_count h.held
    few_floors = floors.each ∙ count_floors h.held

    beside_floor : (k : ℕ) → k < floor_count h.held → (i : Item) → slice_get (held_items h.held) k ≡ Some i → Beside fms k i
    beside_floor k low i e =
        let r = there_below (held_floors h.held) k (floor_count h.held) (count_floors h.held) low in
        let one : Floored r.0 ≡ i = same_Some (Floored r.0) i
        (ap (option_map (λ f. Floored f)) (sym r.1) ∙ sym (floor_item_at h.held k low) ∙ e) in
        let m = few_floors in
        subst (λ x. Beside fms k x) one (beside_by fms k (Floored r.0) (omega (arith, low, m)) (floors.own k r.0 r.1))

    item_of_floor : (k : ℕ) → k < floor_count h.held → (i : Item) × (slice_get (held_items h.held) k ≡ Some i)
    item_of_floor k low =
        let r = there_below (held_floors h.held) k (floor_count h.held) (count_floors h.held) low in
        (Floored r.0, floor_item_at h.held k low ∙ ap (option_map (λ f. Floored f)) r.1)

    -- the first floor that is to be shown is the first item
    pub next_floor : (from n : ℕ) → IsNext (says_unseen sub) fms from (Some n) → IsNext (is_to_show h sub) (held_items h.held) from (Some n)
    next_floor from n next =
        let m = few_floors in
        let w = slice_get_within fms n next.there.1.0 next.there.1.1 in
        let low : n < floor_count h.held = omega (arith, w, m) in
        let r = item_of_floor n low in
        let b = beside_floor n low r.0 r.1 in
        record {
          there = (
            next.there.0,
            (
              r.0,
              r.1,
              sym b.says ∙
                  ap (says_unseen sub) (same_Some b.masks next.there.1.0 (sym b.here ∙ next.there.1.1)) ∙ next.there.1.2,
            ),
          );
          none_before = λ k i e l below.
              (let d = beside_floor k (omega (arith, below, low)) i e in
              sym d.says ∙ next.none_before k d.masks d.here l below);
        }

    module _ (ms : List Masks) (changes : AreMarks h ms) where
      beside_change : (j : ℕ) (i : Item) → slice_get (held_items h.held) (floor_count h.held + j) ≡ Some i → Beside ms j i
      beside_change j i e = by_found (slice_get (held_changes h.held) j) refl
        where
          by_found : (o : Option ChangeRecord) → slice_get (held_changes h.held) j ≡ o → Beside ms j i
          by_found None q = absurd (let no : None ≡ Some i =
              ap (option_map (λ c. Changed c)) (sym q) ∙ sym (change_item_at h.held (floor_count h.held + j) j refl) ∙ e in cc)
          by_found (Some c) q =
              let one : Changed c ≡ i = same_Some (Changed c) i
              (ap (option_map (λ c. Changed c)) (sym q) ∙ sym (change_item_at h.held (floor_count h.held + j) j refl) ∙ e) in
              let w = slice_get_within (held_changes h.held) j c q in
              let n = changes.each in
              subst (λ x. Beside ms j x) one (beside_by ms j (Changed c) (omega (arith, w, n)) (changes.own j c q))

      -- the items that are passed, where no floor is to be shown
      module _ (from start : ℕ) (none : IsNext (says_unseen sub) fms from None) (begins : start ≡ from - length fms) where
        passed_by : (found : Option ℕ) → IsNext (says_unseen sub) ms start found
            → (k : ℕ) (i : Item) → slice_get (held_items h.held) k ≡ Some i → from ≤ k →
            ((j : ℕ) → k ≡ floor_count h.held + j → IfSome found (λ n. j < n)) → is_to_show h sub i ≡ false
        passed_by found next k i e l below = by_place (below_or_not k (floor_count h.held))
          where
            by_place : (k < floor_count h.held) ⊎ (floor_count h.held ≤ k) → is_to_show h sub i ≡ false
            by_place (inl low) =
                let b = beside_floor k low i e in
                sym b.says ∙ none.none_before k b.masks b.here l tt
            by_place (inr high) =
                let j : ℕ = k - floor_count h.held in
                let at : k ≡ floor_count h.held + j = omega (arith, high) in
                let b = beside_change j i (ap (slice_get (held_items h.held)) (sym at) ∙ e) in
                let few = few_floors in
                sym b.says ∙ next.none_before j b.masks b.here (omega (arith, l, high, begins, few)) (below j at)

        pub next_change : (n at : ℕ) → IsNext (says_unseen sub) ms start (Some n) → at ≡ length fms + n →
            IsNext (is_to_show h sub) (held_items h.held) from (Some at)
        next_change n at next is =
            let w = slice_get_within ms n next.there.1.0 next.there.1.1 in
            let few = few_floors in
            let r = there_below (held_changes h.held) n (length ms) (sym changes.each) w in
            let here : slice_get (held_items h.held) (floor_count h.held + n) ≡ Some (Changed r.0) =
            change_item_at h.held (floor_count h.held + n) n refl ∙ ap (option_map (λ c. Changed c)) r.1 in
            let b = beside_change n (Changed r.0) here in
            let first = next.there.0 in
            let place : floor_count h.held + n ≡ at = omega (arith, is, few) in
            record {
              there = (
                omega (arith, first, begins, is, few),
                (
                  Changed r.0,
                  ap (slice_get (held_items h.held)) (sym place) ∙ here,
                  sym b.says ∙
                      ap (says_unseen sub) (same_Some b.masks next.there.1.0 (sym b.here ∙ next.there.1.1)) ∙ next.there.1.2,
                ),
              );
              none_before = λ k i e l below. passed_by (Some n) next k i e l (λ j above. omega (arith, above, below, place));
            }

        pub no_change : IsNext (says_unseen sub) ms start None → IsNext (is_to_show h sub) (held_items h.held) from None
        no_change next = record {
          there = tt;
          none_before = λ k i e l below. passed_by None next k i e l (λ j above. tt);
        }

-- ---- the next of a list
module _ {X : Type 0} (test : X → Bool) (xs : List X) (from : ℕ) where
  abbrev NoneBelow : ℕ → Type 0
  NoneBelow n = (k : ℕ) (x : X) → slice_get xs k ≡ Some x → from ≤ k → k < n → test x ≡ false

  pub none_more : (n : ℕ) (x : X) → slice_get xs n ≡ Some x → test x ≡ false → NoneBelow n → NoneBelow (n + 1)
  none_more n x here fails none k y e l below = by_place (below_or_at k n below)
    where
      by_place : (k < n) ⊎ (k ≡ n) → test y ≡ false
      by_place (inl b) = none k y e l b
      by_place (inr q) = ap test (same_Some y x (sym e ∙ ap (slice_get xs) q ∙ here)) ∙ fails

  pub next_here : (n : ℕ) (x : X) → from ≤ n → slice_get xs n ≡ Some x → test x ≡ true → NoneBelow n → IsNext test xs from (Some n)
  next_here n x l here passes none = record { there = (l, (x, here, passes)); none_before = none }

  pub next_nowhere : (n : ℕ) → length xs ≤ n → NoneBelow n → IsNext test xs from None
  next_nowhere n all none = record {
    there = tt;
    none_before = λ k x e l _. none k x e l (let w = slice_get_within xs k x e in omega (arith, w, all));
  }

-- ---- of the first items those that pass
module _ {X : Type 0} (p : X → Bool) where
  none_among : (m : ℕ) (xs : List X) → ((k : ℕ) (x : X) → slice_get xs k ≡ Some x → k < m → p x ≡ false) → filter p (take m xs) ≡ []
  none_among zero xs none = refl
  none_among (suc m) [] none = refl
  none_among (suc m) (x ∷ xs) none =
      ap (λ b. cond b (x ∷ filter p (take m xs)) (filter p (take m xs))) (none 0 x refl (omega arith)) ∙
      none_among m xs (λ k y e l. none (suc k) y e (omega (arith, l)))

  -- where none of those between passes, they are the same
  pub filter_past : (n m : ℕ) (xs : List X) → n ≤ m → ((k : ℕ) (x : X) → slice_get xs k ≡ Some x → n ≤ k → k < m → p x ≡ false) →
      filter p (take m xs) ≡ filter p (take n xs)
  filter_past zero m xs l none = none_among m xs (λ k x e w. none k x e (omega arith) w)
  filter_past (suc n) zero xs l none = absurd (omega (arith, l))
  filter_past (suc n) (suc m) [] l none = refl
  filter_past (suc n) (suc m) (x ∷ xs) l none =
      ap (λ (ys : List X). cond (p x) (x ∷ ys) ys)
      (filter_past n m xs (omega (arith, l)) (λ k y e a b. none (suc k) y e (omega (arith, a)) (omega (arith, b))))

-- ---- how many items are held
pub items_counted : (h : Holding) (count floors : ℕ) → count ≡ held_count h → floors ≡ floor_count h →
    length (held_items h) ≡ floors + count
items_counted h count floors c f =
    let both = ap (λ (l : List Item). length l) (items_floored h) in
    let sum = length-append (map floored (held_floors h)) (map change_item (held_changes h)) in
    let m = length-map (held_floors h) floored in
    let n = length-map (held_changes h) change_item in
    let fs = count_floors h in
    let cs = count_is h in
    omega (arith, both, sum, m, n, fs, cs, c, f)

-- ---- a subscription that isn't pending
module _ (h : MarkedHolding Masks) (pending : List Bool) (sub : ℕ) (are : ArePending h pending) (none : get_or pending sub false ≡ false)
  where
    -- nothing is to be shown to it
    pub not_pending : (k : ℕ) (i : Item) → slice_get (held_items h.held) k ≡ Some i → is_to_show h sub i ≡ false
    not_pending k i at = by_test (is_to_show h sub i) refl
      where
        by_test : (b : Bool) → is_to_show h sub i ≡ b → is_to_show h sub i ≡ false
        by_test false e = e
        by_test true e = absurd (let no : false ≡ true = sym none ∙ are.each i sub (index_among (held_items h.held) k i at) e in cc)

    pub nothing_first : (max : ℕ) → AreFirst h sub max [] 0
    nothing_first max = record {
      shown = refl;
      few = omega arith;
      enough = inr (sym (filter_past (is_to_show h sub) 0 (length (held_items h.held)) (held_items h.held) (omega arith)
          (λ k i at l w. not_pending k i at))
          ∙ ap (λ (l : List Item). filter (is_to_show h sub) l) (few_taken (length (held_items h.held)) (held_items h.held) (omega arith)));
    }
