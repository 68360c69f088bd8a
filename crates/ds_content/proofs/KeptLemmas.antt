-- What the masks beside what is held say, after an item took effect.
use Rattle.std.proofs.Common.{◌≡◌, ℕ, ◌≤◌, Bool, true, false, cond, List, [], ◌∷◌, ◌++◌, map, length, get_or, Option, Some, None, is_some}
use Rattle.std.proofs.Common.{Ok, refl, ap, sym, ◌∙◌, subst, inl, inr, Contains}
use Rattle.std.proofs.lemmas.Cmp.{nat_list_cmp_total}
use Rattle.std.proofs.lemmas.List.{length-map}
use Rattle.std.proofs.lemmas.List.Elements.{Contains-push_cases}
use Rattle.std.proofs.lemmas.Option.{same_Some}
use Rattle.std.specs.FinMap.{FinMap, get, insert, get-insert, get-retain_keys}
use Rattle.std.specs.Option.{option_map_or}
use Rattle.std.specs.Ordering.{eq_by_cmp}
use Rattle.ds_names.specs.declared.key.Key.{Key}
use Rattle.ds_names.specs.Key.{name_cmp, key_cmp}
use Rattle.ds_names.proofs.OrderLemmas.{keys_total, exact_keys}
use Rattle.ds_entry.specs.Change.{ChangeRecord}
use Rattle.ds_entry.specs.declared.floor.Floor.{Floor}
use Rattle.ds_entry.specs.declared.item.Item.{Item}
use Rattle.ds_entry.specs.declared.item.Item.TheVariants.{Change as Changed, Floor as Floored}
use Rattle.ds_entry.proofs.CoversLemmas.{same_key-refl, same_name, same_name-refl}
use Rattle.ds_join.specs.ItemTop.{IsTop}
use Rattle.ds_join.specs.declared.merge.Merge.TheVariants.{Taken}
use Rattle.ds_held.specs.Held.{Holding, held_items, held_for, floor_for, IsSound}
use Rattle.ds_held.specs.Merge.{after_merge}
use Rattle.ds_held.specs.Raise.{after_raise, at_kept_keys, stays}
use Rattle.ds_held.proofs.HeldLemmas.{is_held, change_in}
use Rattle.ds_index.specs.Marked.{MarkedHolding, mark_for, floor_mark_for, HasMarks}
use Rattle.ds_watch.specs.Mask.{either, padded}
use Rattle.ds_watch.specs.Masks.{fresh}
use Rattle.ds_watch.specs.Watching.{Watching}
use Rattle.ds_watch.specs.Watching as keys
use Rattle.ds_watch.specs.declared.masks.Masks.{Masks}
use Rattle.ds_content.specs.Followed.{watches_item}
use Rattle.ds_content.specs.Kept.{AreMarked, ArePending, masks_at, under_at, unseen_at}
use Rattle.ds_content.proofs.OwedLemmas.{key_watches, padded_flag, padded_long}
use Rattle.ds_content.proofs.PendingLemmas.{either_long, either_first, either_second}

-- ---- an item that took effect, and has its fresh masks, where what else is held has those that it had
module _ (old new : MarkedHolding Masks) (i : Item) (owed : List Bool) (top : IsTop (held_items new.held) (held_items old.held ++ i ∷ []))
    (here : masks_at new i ≡ Some (fresh owed))
    (kept : (y : Item) → Contains (held_items new.held) y → Contains (held_items old.held) y → masks_at new y ≡ masks_at old y)
    (ws : List (Option Watching)) (owes : owed ≡ padded (map (watches_item i) ws)) where
  pub fresh_flag : (k : ℕ) → get_or (unseen_at new i) k false ≡ watches_item i (get_or ws k None)
  fresh_flag k = ap (λ (o : Option Masks). get_or (option_map_or (λ (m : Masks). m.unseen) o []) k false) here ∙
      ap (λ (fs : List Bool). get_or fs k false) owes ∙ padded_flag ws i k

  pub other_flags : (y : Item) → Contains (held_items new.held) y → Contains (held_items old.held) y → unseen_at new y ≡ unseen_at old y
  other_flags y h k = ap (λ (o : Option Masks). option_map_or (λ (m : Masks). m.unseen) o []) (kept y h k)

  module _ (few : length ws ≤ 128) (are : AreMarked old ws) where
    here_long : length owed ≡ 128
    here_long = ap (λ (fs : List Bool). length fs) owes ∙
        padded_long (map (watches_item i) ws) (subst (λ n. n ≤ 128) (sym (length-map ws (watches_item i))) few)

    pub marked_more : AreMarked new ws
    marked_more = record {
      under = λ y h. elim (Contains-push_cases (held_items old.held) i y (top.among y h)) [
        | inl k ↦ ap (λ (o : Option Masks). option_map_or (λ (m : Masks). m.under) o []) (kept y h k) ∙ are.under y k
        | inr q ↦ subst (λ (z : Item). under_at new z ≡ padded (map (watches_item z) ws)) q
            (ap (λ (o : Option Masks). option_map_or (λ (m : Masks). m.under) o []) here ∙ owes)
      ];
      long = λ y h. elim (Contains-push_cases (held_items old.held) i y (top.among y h)) [
        | inl k ↦ ap (λ (fs : List Bool). length fs) (other_flags y h k) ∙ are.long y k
        | inr q ↦ subst (λ (z : Item). length (unseen_at new z) ≡ 128) q
            (ap (λ (o : Option Masks). length (option_map_or (λ (m : Masks). m.unseen) o [])) here ∙ here_long)
      ];
    }

    pub pending_more : (pending : List Bool) → ArePending old pending → ArePending new (either pending owed)
    pending_more pending before =
        let same : length pending ≡ length owed = before.long ∙ sym here_long in
        record {
          long = either_long pending owed same ∙ before.long;
          each = λ y k h t. elim (Contains-push_cases (held_items old.held) i y (top.among y h)) [
            | inl q ↦ either_first pending owed k same
                (before.each y k q (ap (λ (fs : List Bool). get_or fs k false) (sym (other_flags y h q)) ∙ t))
            | inr q ↦ either_second pending owed k same
                (ap (λ (o : Option Masks). get_or (option_map_or (λ (m : Masks). m.unseen) o []) k false) (sym here) ∙
                subst (λ (z : Item). get_or (unseen_at new z) k false ≡ true) (sym q) t)
          ];
        }

-- ---- a change
module _ (old new : MarkedHolding Masks) (c : ChangeRecord) (owed : List Bool) (sound : IsSound new.held)
    (held : new.held ≡ after_merge old.held c (Ok Taken))
    (marks : new.marks ≡ insert old.marks c.key (fresh owed)) (floors : new.floor_marks ≡ old.floor_marks) where
  at_key : (key : Key) (b : Bool) → eq_by_cmp key_cmp key c.key ≡ b → mark_for new key ≡ cond b (Some (fresh owed)) (mark_for old key)
  at_key key b e =
      ap (λ (m : FinMap key_cmp Masks). get m key) marks ∙ get-insert keys_total old.marks c.key (fresh owed) key ∙
      ap (λ t. cond t (Some (fresh owed)) (get old.marks key)) e

  pub change_here : masks_at new (Changed c) ≡ Some (fresh owed)
  change_here = at_key c.key true (same_key-refl c.key c.key refl)

  held_key : (key : Key) → eq_by_cmp key_cmp key c.key ≡ true → held_for new.held key ≡ Some c
  held_key key e = ap (λ (h : Holding). held_for h key) held ∙ get-insert keys_total old.held.changes c.key c key ∙
      ap (λ t. cond t (Some c) (get old.held.changes key)) e

  pub change_kept : (Contains (held_items old.held) (Changed c) → ⊥) → (y : Item) → Contains (held_items new.held) y →
      Contains (held_items old.held) y → masks_at new y ≡ masks_at old y
  change_kept gone (Floored f) h k = ap (λ (m : FinMap name_cmp Masks). get m f.owner) floors
  change_kept gone (Changed d) h k = by_test (eq_by_cmp key_cmp d.key c.key) refl
    where
      by_test : (b : Bool) → eq_by_cmp key_cmp d.key c.key ≡ b → masks_at new (Changed d) ≡ masks_at old (Changed d)
      by_test true e =
          let one : c ≡ d = same_Some c d (sym (held_key d.key e) ∙ is_held new.held sound (Changed d) h) in
          absurd (gone (subst (λ (x : ChangeRecord). Contains (held_items old.held) (Changed x)) (sym one) k))
      by_test false e = at_key d.key false e

-- ---- a floor
module _ (old new : MarkedHolding Masks) (f : Floor) (owed : List Bool) (sound : IsSound new.held)
    (held : new.held ≡ after_raise old.held f (Ok Taken))
    (marks : new.marks ≡ at_kept_keys f old.held.changes old.marks)
    (floors : new.floor_marks ≡ insert old.floor_marks f.owner (fresh owed)) where
  at_owner : (owner : List ℕ) (b : Bool) → eq_by_cmp name_cmp owner f.owner ≡ b →
      floor_mark_for new owner ≡ cond b (Some (fresh owed)) (floor_mark_for old owner)
  at_owner owner b e =
      ap (λ (m : FinMap name_cmp Masks). get m owner) floors ∙ get-insert nat_list_cmp_total old.floor_marks f.owner (fresh owed) owner ∙
      ap (λ t. cond t (Some (fresh owed)) (get old.floor_marks owner)) e

  pub floor_here : masks_at new (Floored f) ≡ Some (fresh owed)
  floor_here = at_owner f.owner true (same_name-refl f.owner f.owner refl)

  held_owner : (owner : List ℕ) → eq_by_cmp name_cmp owner f.owner ≡ true → floor_for new.held owner ≡ Some f.generation
  held_owner owner e = ap (λ (h : Holding). floor_for h owner) held ∙
      get-insert nat_list_cmp_total old.held.floors f.owner f.generation owner ∙
      ap (λ t. cond t (Some f.generation) (get old.held.floors owner)) e

  left : {X : Type 0} (m : FinMap key_cmp X) (key : Key) →
      get (at_kept_keys f old.held.changes m) key ≡ cond (stays f (get old.held.changes key)) (get m key) None
  left m key = get-retain_keys m (λ k. stays f (get old.held.changes k)) key
      (λ x t. ap (λ k. stays f (get old.held.changes k)) (sym (exact_keys key x t)))

  stays_held : (o : Option ChangeRecord) (d : ChangeRecord) (b : Bool) → cond b o None ≡ Some d → b ≡ true
  stays_held o d true e = refl
  stays_held o d false e = absurd (cc)

  pub floor_kept : (Contains (held_items old.held) (Floored f) → ⊥) → (y : Item) → Contains (held_items new.held) y →
      Contains (held_items old.held) y → masks_at new y ≡ masks_at old y
  floor_kept gone (Floored g) h k = by_test (eq_by_cmp name_cmp g.owner f.owner) refl
    where
      by_test : (b : Bool) → eq_by_cmp name_cmp g.owner f.owner ≡ b → masks_at new (Floored g) ≡ masks_at old (Floored g)
      by_test true e =
          let generation : f.generation ≡ g.generation =
          same_Some f.generation g.generation (sym (held_owner g.owner e) ∙ is_held new.held sound (Floored g) h) in
          let owner : g.owner ≡ f.owner = same_name g.owner f.owner e in
          let one : g ≡ f = λ i. record { owner = owner i; generation = sym generation i } in
          absurd (gone (subst (λ (x : Floor). Contains (held_items old.held) (Floored x)) one k))
      by_test false e = at_owner g.owner false e
  floor_kept gone (Changed d) h k =
      let there : get (at_kept_keys f old.held.changes old.held.changes) d.key ≡ Some d =
      sym (ap (λ (x : Holding). held_for x d.key) held) ∙ is_held new.held sound (Changed d) h in
      let stay : stays f (get old.held.changes d.key) ≡ true =
      stays_held (get old.held.changes d.key) d (stays f (get old.held.changes d.key)) (sym (left old.held.changes d.key) ∙ there) in
      ap (λ (m : FinMap key_cmp Masks). get m d.key) marks ∙ left old.marks d.key ∙ ap (λ b. cond b (get old.marks d.key) None) stay

-- ---- a held key, and one that isn't
module _ (h : MarkedHolding Masks) (marked : HasMarks h) (sound : IsSound h.held) where
  -- its mask is of those to which a change of it is owed
  pub known_under : (key : Key) (m : Masks) → mark_for h key ≡ Some m →
      (c : ChangeRecord) × Contains (held_items h.held) (Changed c) × (c.key ≡ key)
  known_under key m e = by_held (held_for h.held key) refl
    where
      by_held : (o : Option ChangeRecord) → held_for h.held key ≡ o →
          (c : ChangeRecord) × Contains (held_items h.held) (Changed c) × (c.key ≡ key)
      by_held None q = absurd (let no : true ≡ false = sym (ap is_some e) ∙ marked.keys key ∙ ap is_some q in cc)
      by_held (Some c) q = (c, change_in h.held key c q, sound.own key c q)

  pub known_owed : (ws : List (Option Watching)) → AreMarked h ws → (key : Key) (m : Masks) → mark_for h key ≡ Some m →
      m.under ≡ padded (map (keys.watches key) ws)
  known_owed ws are key m e =
      let r = known_under key m e in
      sym (ap (λ (o : Option Masks). option_map_or (λ (x : Masks). x.under) o []) e)
      ∙ ap (λ (k : Key). option_map_or (λ (x : Masks). x.under) (mark_for h k) []) (sym r.2)
      ∙ are.under (Changed r.0) r.1 ∙ ap padded (key_watches r.0 ws) ∙ ap (λ (k : Key). padded (map (keys.watches k) ws)) r.2

  -- a key without masks isn't held
  pub not_known : (key : Key) → mark_for h key ≡ None → held_for h.held key ≡ None
  not_known key e = by_held (held_for h.held key) refl
    where
      by_held : (o : Option ChangeRecord) → held_for h.held key ≡ o → held_for h.held key ≡ None
      by_held None q = q
      by_held (Some c) q = absurd (let no : false ≡ true = sym (ap is_some e) ∙ marked.keys key ∙ ap is_some q in cc)
