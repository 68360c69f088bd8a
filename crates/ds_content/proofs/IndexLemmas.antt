-- The masks of the item at an index, and whether the item is under a query.
use Rattle.std.proofs.Common.{◌≡◌, ℕ, map, length-append, ◌+◌, ◌<◌, ◌≤◌, Bool, true, false, List, [], ◌∷◌, zero, suc, length, get_or}
use Rattle.std.proofs.Common.{Option, Some, None, is_some, refl, ap, sym, ◌∙◌, subst, arith, Contains}
use Rattle.std.specs.Prelude.{slice_get}
use Rattle.std.specs.Option.{option_map, option_map_or}
use Rattle.std.proofs.lemmas.Option.{same_Some}
use Rattle.ds_entry.specs.Change.{ChangeRecord}
use Rattle.ds_entry.specs.declared.floor.Floor.{Floor}
use Rattle.ds_entry.specs.declared.item.Item.{Item}
use Rattle.ds_entry.specs.declared.item.Item.TheVariants.{Change as Changed, Floor as Floored}
use Rattle.ds_held.specs.Held.{Holding, held_items, held_changes, held_floors, held_count, floor_count, change_item, IsSound}
use Rattle.ds_held.specs.Kept.{floored}
use Rattle.ds_held.specs.Limits.{LimitsRecord, IsLimits}
use Rattle.ds_held.proofs.HeldLemmas.{is_held, count_is}
use Rattle.ds_index.proofs.MarkLemmas.{few_keys}
use Rattle.ds_index.specs.Marked.{MarkedHolding, mark_for, floor_mark_for, HasMarks}
use Rattle.ds_pattern.specs.declared.query.Query.{Query}
use Rattle.ds_pattern.specs.Under.{is_under}
use Rattle.ds_watch.specs.declared.masks.Masks.{Masks}
use Rattle.ds_content.specs.Kept.{masks_at}
use Rattle.ds_content.specs.Shown.{is_to_show}
use Rattle.ds_content.proofs.FlagLemmas.{past_end, index_among}
use Rattle.ds_content.proofs.HoldingLemmas.{count_floors, items_floored, floor_item_at, change_item_at}
use Rattle.ds_entry.specs.Item.{passes}
use Rattle.std.proofs.lemmas.List.{length-map}

pub none_mapped : {X Y : Type 0} (f : X → Y) (o : Option X) → option_map f o ≡ None → o ≡ None
none_mapped f None e = refl
none_mapped f (Some x) e = absurd (cc)

-- without an element at an index, there is no mark
pub none_beside : {X M : Type 0} (xs : List X) (ms : List M) (index : ℕ) → length ms ≡ length xs → slice_get xs index ≡ None →
    slice_get ms index ≡ None
none_beside xs [] index e none = refl
none_beside [] (m ∷ ms) index e none = absurd (omega (arith, e))
none_beside (x ∷ xs) (m ∷ ms) zero e none = absurd (cc)
none_beside (x ∷ xs) (m ∷ ms) (suc index) e none = none_beside xs ms index (omega (arith, e)) none

module _ (h : MarkedHolding Masks) (index : ℕ) (r : Option Masks) where
  module _ (low : index < floor_count h.held) where
    floor_by : (o : Option Floor) → slice_get (held_floors h.held) index ≡ o → ((f : Floor) → o ≡ Some f → r ≡ floor_mark_for h f.owner) →
        (i : Item) → option_map (λ f. Floored f) o ≡ Some i → r ≡ masks_at h i
    floor_by None e here i q = absurd (cc)
    floor_by (Some f) e here i q = subst (λ (x : Item). r ≡ masks_at h x) (same_Some (Floored f) i q) (here f refl)

    pub floor_beside : ((f : Floor) → slice_get (held_floors h.held) index ≡ Some f → r ≡ floor_mark_for h f.owner) → (i : Item) →
        slice_get (held_items h.held) index ≡ Some i → r ≡ masks_at h i
    floor_beside here i e = floor_by (slice_get (held_floors h.held) index) refl here i (sym (floor_item_at h.held index low) ∙ e)

    pub floor_none : (slice_get (held_floors h.held) index ≡ None → r ≡ None) → slice_get (held_items h.held) index ≡ None → r ≡ None
    floor_none none e = none (none_mapped (λ f. Floored f) (slice_get (held_floors h.held) index)
        (sym (floor_item_at h.held index low) ∙ e))

  module _ (j : ℕ) (high : index ≡ floor_count h.held + j) where
    change_by : (o : Option ChangeRecord) → slice_get (held_changes h.held) j ≡ o →
        ((c : ChangeRecord) → o ≡ Some c → r ≡ mark_for h c.key) → (i : Item) → option_map (λ c. Changed c) o ≡ Some i → r ≡ masks_at h i
    change_by None e here i q = absurd (cc)
    change_by (Some c) e here i q = subst (λ (x : Item). r ≡ masks_at h x) (same_Some (Changed c) i q) (here c refl)

    pub change_beside : ((c : ChangeRecord) → slice_get (held_changes h.held) j ≡ Some c → r ≡ mark_for h c.key) → (i : Item) →
        slice_get (held_items h.held) index ≡ Some i → r ≡ masks_at h i
    change_beside here i e = change_by (slice_get (held_changes h.held) j) refl here i (sym (change_item_at h.held index j high) ∙ e)

    pub change_none : (slice_get (held_changes h.held) j ≡ None → r ≡ None) → slice_get (held_items h.held) index ≡ None → r ≡ None
    change_none none e = none (none_mapped (λ c. Changed c) (slice_get (held_changes h.held) j)
        (sym (change_item_at h.held index j high) ∙ e))

-- ---- the item itself
pub floor_there : (h : Holding) (index : ℕ) → index < floor_count h → (f : Floor) × (slice_get (held_floors h) index ≡ Some f)
floor_there h index low = by_found (slice_get (held_floors h) index) refl
  where
    by_found : (o : Option Floor) → slice_get (held_floors h) index ≡ o → (f : Floor) × (slice_get (held_floors h) index ≡ Some f)
    by_found (Some f) e = (f, e)
    by_found None e = let past = past_end (held_floors h) index e in let n = count_floors h in absurd (omega (arith, past, n, low))

pub floor_under : (h : Holding) (index : ℕ) (q : Query) → index < floor_count h →
    Some true ≡ option_map (passes (is_under q)) (slice_get (held_items h) index)
floor_under h index q low =
    let r = floor_there h index low in
    sym (ap (option_map (passes (is_under q))) (floor_item_at h index low ∙ ap (option_map (λ f. Floored f)) r.1))

pub change_under : (h : Holding) (index j : ℕ) (q : Query) (o : Option ChangeRecord) → index ≡ floor_count h + j →
    o ≡ slice_get (held_changes h) j →
    option_map (λ (c : ChangeRecord). is_under q c.key) o ≡ option_map (passes (is_under q)) (slice_get (held_items h) index)
change_under h index j q None e is = sym (ap (option_map (passes (is_under q)))
    (change_item_at h index j e ∙ ap (option_map (λ c. Changed c)) (sym is)))
change_under h index j q (Some c) e is = sym
    (ap (option_map (passes (is_under q))) (change_item_at h index j e ∙ ap (option_map (λ c. Changed c)) (sym is)))

pub flag_there : (q : Query) (o : Option Item) (b : Bool) → Some b ≡ option_map (passes (is_under q)) o →
    (i : Item) × (o ≡ Some i) × (b ≡ passes (is_under q) i)
flag_there q None b e = absurd (cc)
flag_there q (Some i) b e = (i, refl, same_Some b (passes (is_under q) i) e)

-- ---- a copy of the item
module _ (h : Holding) (index : ℕ) where
  pub floor_copied : index < floor_count h → (f : Floor) → Some f ≡ slice_get (held_floors h) index →
      Some (Floored f) ≡ slice_get (held_items h) index
  floor_copied low f e = sym (floor_item_at h index low ∙ ap (option_map (λ f. Floored f)) (sym e))

  pub no_floor_copied : index < floor_count h → None ≡ slice_get (held_floors h) index → None ≡ slice_get (held_items h) index
  no_floor_copied low e = sym (floor_item_at h index low ∙ ap (option_map (λ f. Floored f)) (sym e))

  pub change_copied : (j : ℕ) → index ≡ floor_count h + j → (c d : ChangeRecord) → d ≡ c → Some c ≡ slice_get (held_changes h) j →
      Some (Changed d) ≡ slice_get (held_items h) index
  change_copied j high c d same e = sym (change_item_at h index j high ∙ ap (option_map (λ c. Changed c)) (sym e) ∙
      ap (λ x. Some (Changed x)) (sym same))

  pub no_change_copied : (j : ℕ) → index ≡ floor_count h + j → None ≡ slice_get (held_changes h) j → None ≡ slice_get (held_items h) index
  no_change_copied j high e = sym (change_item_at h index j high ∙ ap (option_map (λ c. Changed c)) (sym e))

-- ---- each held item has masks
has_masks : (h : MarkedHolding Masks) → HasMarks h → IsSound h.held → (i : Item) → Contains (held_items h.held) i →
    is_some (masks_at h i) ≡ true
has_masks h marked sound (Changed c) k = marked.keys c.key ∙ ap is_some (is_held h.held sound (Changed c) k)
has_masks h marked sound (Floored f) k = marked.owners f.owner ∙ ap is_some (is_held h.held sound (Floored f) k)

module _ (h : MarkedHolding Masks) (marked : HasMarks h) (sound : IsSound h.held) (index : ℕ) where
  -- without masks, there is no item
  pub no_masks : ((i : Item) → slice_get (held_items h.held) index ≡ Some i → None ≡ masks_at h i) →
      slice_get (held_items h.held) index ≡ None
  no_masks here = by_found (slice_get (held_items h.held) index) refl
    where
      by_found : (o : Option Item) → slice_get (held_items h.held) index ≡ o → o ≡ None
      by_found None e = refl
      by_found (Some i) e = absurd (let no : true ≡ false =
          sym (has_masks h marked sound i (index_among (held_items h.held) index i e)) ∙ ap is_some (sym (here i e)) in cc)

-- and where there are some, one does
pub masks_there : (h : MarkedHolding Masks) (index : ℕ) (m : Masks) → (slice_get (held_items h.held) index ≡ None → Some m ≡ None) →
    (i : Item) × (slice_get (held_items h.held) index ≡ Some i)
masks_there h index m none = by_found (slice_get (held_items h.held) index) refl
  where
    by_found : (o : Option Item) → slice_get (held_items h.held) index ≡ o → (i : Item) × (slice_get (held_items h.held) index ≡ Some i)
    by_found (Some i) e = (i, e)
    by_found None e = absurd (let no : Some m ≡ None = none e in cc)

-- its flag is the mask's
pub flag_is : (h : MarkedHolding Masks) (index sub : ℕ) (m : Masks) (i : Item) → Some m ≡ masks_at h i →
    get_or m.unseen sub false ≡ is_to_show h sub i
flag_is h index sub m i e = ap (λ (o : Option Masks). get_or (option_map_or (λ (x : Masks). x.unseen) o []) sub false) e

pub same_item : (o : Option Item) (i j : Item) → o ≡ Some i → Some j ≡ o → j ≡ i
same_item o i j e f = same_Some j i (f ∙ e)

-- ---- how many items are held

pub few_items : (h : Holding) (l : LimitsRecord) (count floors : ℕ) → l ≡ h.limits → IsLimits l → count ≡ held_count h →
    count ≤ h.limits.keys → floors ≡ floor_count h → floors ≤ 64 → length (held_items h) ≤ 4160
few_items h l count floors e is c low f few =
    let bound = few_keys l is in
    let keys : l.keys ≡ h.limits.keys = ap (λ (x : LimitsRecord). x.keys) e in
    let both = ap (λ (l : List Item). length l) (items_floored h) in
    let sum = length-append (map floored (held_floors h)) (map change_item (held_changes h)) in
    let m = length-map (held_floors h) floored in
    let n = length-map (held_changes h) change_item in
    let fs = count_floors h in
    let cs = count_is h in
    omega (arith, bound, keys, both, sum, m, n, fs, cs, c, low, f, few)

pub none_is : {X : Type 0} (o : Option X) → false ≡ is_some o → o ≡ None
none_is None e = refl
none_is (Some x) e = absurd (cc)

pub some_is : {X : Type 0} (o : Option X) → true ≡ is_some o → (x : X) × (o ≡ Some x)
some_is None e = absurd (cc)
some_is (Some x) e = (x, refl)
