-- What is held, as items.
use Rattle.std.proofs.Common.{◌≡◌, ℕ, true, false, List, map, Bool, Some, refl, sym, ap, ◌∙◌, subst, inl, inr, Contains, length}
use Rattle.std.proofs.lemmas.Cmp.{nat_list_cmp_total}
use Rattle.std.proofs.lemmas.Map.Lookups.{exact_bytes}
use Rattle.std.specs.declared.cmp.Ordering.TheVariants.{Less}
use Rattle.std.specs.List.Sorted.{IsStrictlySortedBy}
use Rattle.std.specs.FinMap.{entries, entries_sorted, get-entries, len-entries}
use Rattle.ds_names.specs.declared.key.Key.{Key}
use Rattle.ds_names.specs.Key.{name_cmp, key_cmp}
use Rattle.ds_names.proofs.OrderLemmas.{keys_total, exact_keys}
use Rattle.ds_entry.specs.Change.{ChangeRecord}
use Rattle.ds_entry.specs.Floor.{floor_of}
use Rattle.ds_entry.specs.Item.{item_cmp}
use Rattle.ds_entry.specs.Void.{voids}
use Rattle.ds_entry.specs.declared.floor.Floor.{Floor}
use Rattle.ds_entry.specs.declared.item.Item.{Item}
use Rattle.ds_entry.specs.declared.item.Item.TheVariants.{Change as Changed, Floor as Floored}
use Rattle.ds_entry.proofs.Members.{In, In-from_Contains, Contains-from_In}
use Rattle.ds_entry.proofs.ItemLemmas.{voids-is}
use Rattle.ds_join.specs.ItemTop.{IsTop, IsPartOf, CoversAll}
use Rattle.ds_held.specs.Held.{Holding, held_items, held_changes, held_for, floor_for, floor_item, change_item, is_below, IsSound}
use Rattle.ds_held.specs.Held.{held_count}
use Rattle.ds_held.proofs.EntryLemmas.{In-append, In-left, In-right, In-map, In-from_map, In-from_find, find-from_In, sorted_items}
use Rattle.ds_held.proofs.EntryLemmas.{sorted_append, map_twice}
use Rattle.std.proofs.lemmas.Map.Entries.{length-values_of}

-- An item is where it is looked for.
abbrev pub IsHeld : Holding → Item → Type 0
IsHeld h (Changed c) = held_for h c.key ≡ Some c
IsHeld h (Floored f) = floor_for h f.owner ≡ Some f.generation

module _ (h : Holding) where
  floor_at : (e : List ℕ × ℕ) → In e (entries h.floors) → floor_for h e.0 ≡ Some e.1
  floor_at e k = get-entries h.floors e.0 ∙ find-from_In name_cmp nat_list_cmp_total exact_bytes e.0 e.1 (entries h.floors)
      (entries_sorted h.floors) k

  change_at : (e : Key × ChangeRecord) → In e (entries h.changes) → held_for h e.0 ≡ Some e.1
  change_at e k = get-entries h.changes e.0 ∙
      find-from_In key_cmp keys_total exact_keys e.0 e.1 (entries h.changes) (entries_sorted h.changes) k

  pub floor_in : (owner : List ℕ) (g : ℕ) → floor_for h owner ≡ Some g → Contains (held_items h) (Floored (floor_of owner g))
  floor_in owner g e =
      Contains-from_In _ (held_items h) (In-left (map floor_item (entries h.floors)) (map change_item (held_changes h))
      (Floored (floor_of owner g))
      (In-map floor_item (entries h.floors) (owner, g)
      (In-from_find name_cmp nat_list_cmp_total exact_bytes owner g (entries h.floors) (sym (get-entries h.floors owner) ∙ e))))

  pub change_in : (key : Key) (c : ChangeRecord) → held_for h key ≡ Some c → Contains (held_items h) (Changed c)
  change_in key c e =
      Contains-from_In _ (held_items h) (In-right (map floor_item (entries h.floors)) (map change_item (held_changes h)) (Changed c)
      (In-map change_item (held_changes h) c (In-map (λ (e : Key × ChangeRecord). e.1) (entries h.changes) (key, c)
      (In-from_find key_cmp keys_total exact_keys key c (entries h.changes) (sym (get-entries h.changes key) ∙ e)))))

  pub is_in : (i : Item) → IsHeld h i → Contains (held_items h) i
  is_in (Changed c) e = change_in c.key c e
  is_in (Floored f) e = floor_in f.owner f.generation e

  module _ (sound : IsSound h) where
    own_entry : (e : Key × ChangeRecord) → In e (entries h.changes) → e.1.key ≡ e.0
    own_entry e k = sound.own e.0 e.1 (change_at e k)

    -- A held change is at its own key.
    held_at : (c : ChangeRecord) → In c (held_changes h) → held_for h c.key ≡ Some c
    held_at c k =
        let r = In-from_map (λ (e : Key × ChangeRecord). e.1) (entries h.changes) c k in
        subst (λ (d : ChangeRecord). held_for h d.key ≡ Some d) (sym r.2)
        (ap (λ (key : Key). held_for h key) (own_entry r.0 r.1) ∙ change_at r.0 r.1)

    pub held_at_key : (c : ChangeRecord) → Contains (held_changes h) c → held_for h c.key ≡ Some c
    held_at_key c k = held_at c (In-from_Contains c (held_changes h) k)

    as_held : (i : Item) → In i (held_items h) → IsHeld h i
    as_held i k = elim (In-append (map floor_item (entries h.floors)) (map change_item (held_changes h)) i k) [
      | inl m ↦ let r = In-from_map floor_item (entries h.floors) i m in subst (IsHeld h) (sym r.2) (floor_at r.0 r.1)
      | inr m ↦ let r = In-from_map change_item (held_changes h) i m in subst (IsHeld h) (sym r.2) (held_at r.0 r.1)
    ]

    pub is_held : (i : Item) → Contains (held_items h) i → IsHeld h i
    is_held i k = as_held i (In-from_Contains i (held_items h) k)

    floors_below : (x y : Item) → In x (map floor_item (entries h.floors)) → In y (map change_item (held_changes h)) → item_cmp x y ≡ Less
    floors_below x y k m =
        let r = In-from_map floor_item (entries h.floors) x k in
        let s = In-from_map change_item (held_changes h) y m in
        ap (λ z. item_cmp z y) r.2 ∙ ap (item_cmp (floor_item r.0)) s.2

    changes_in_order : IsStrictlySortedBy item_cmp (map change_item (held_changes h))
    changes_in_order =
        subst (IsStrictlySortedBy item_cmp) (sym (map_twice change_item (λ (e : Key × ChangeRecord). e.1) (entries h.changes)))
        (sorted_items key_cmp keys_total exact_keys item_cmp (λ (e : Key × ChangeRecord). Changed e.1) (entries h.changes)
        (entries_sorted h.changes)
        (λ a b k m. ap (λ key. key_cmp key b.1.key) (own_entry a k) ∙ ap (key_cmp a.0) (own_entry b m)))

    held_in_order : IsStrictlySortedBy item_cmp (held_items h)
    held_in_order =
        sorted_append item_cmp (map floor_item (entries h.floors)) (map change_item (held_changes h))
        (sorted_items name_cmp nat_list_cmp_total exact_bytes item_cmp floor_item (entries h.floors) (entries_sorted h.floors)
        (λ a b k m. refl))
        changes_in_order
        floors_below

    held_none_void : (f : Floor) (c : ChangeRecord) → Contains (held_items h) (Floored f) → Contains (held_items h) (Changed c) →
        voids f c ≡ false
    held_none_void f c k m = by_test (voids f c) refl
      where
        not_below : (g : ℕ) → floor_for h c.owner ≡ Some g → voids (floor_of c.owner g) c ≡ false
        not_below g e = sym (ap (λ o. is_below o c) e) ∙ sound.none_void c.key c (is_held (Changed c) m)

        by_test : (b : Bool) → voids f c ≡ b → b ≡ false
        by_test false e = refl
        by_test true e =
            let o : c.owner ≡ f.owner = (voids-is f c e).owner in
            let at : floor_for h c.owner ≡ Some f.generation = ap (floor_for h) o ∙ is_held (Floored f) k in
            let same : voids (floor_of c.owner f.generation) c ≡ voids f c = ap (λ (n : List ℕ). voids (floor_of n f.generation) c) o in
            sym e ∙ sym same ∙ not_below f.generation at

    -- What is held is the top of a set if it is part of the set and covers it.
    pub held_is_top : (set : List Item) → IsPartOf (held_items h) set → CoversAll (held_items h) set → IsTop (held_items h) set
    held_is_top set a g = record { in_order = held_in_order; among = a; greatest = g; none_void = held_none_void }

-- the number of held changes
pub count_is : (h : Holding) → length (held_changes h) ≡ held_count h
count_is h = length-values_of (entries h.changes) ∙ sym (len-entries h.changes)
