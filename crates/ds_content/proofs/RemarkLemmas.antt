-- Other masks beside what is held, one index after the other.
use Rattle.std.proofs.Common.{◌≡◌, ℕ, zero, suc, ◌+◌, ◌-◌, ◌<◌, ◌≤◌, ◌⊎◌, Bool, true, false, cond, ◌&&◌, List, [], ◌∷◌, ◌++◌, length}
use Rattle.std.proofs.Common.{get_or, set, map, replicate, Option, Some, None}
use Rattle.std.proofs.Common.{refl, ap, ap₂, sym, ◌∙◌, subst, inl, inr, arith, Contains}
use Rattle.std.specs.Prelude.{slice_get}
use Rattle.std.specs.FinMap.{FinMap, get, get-insert}
use Rattle.std.specs.Option.{option_map, option_map_or}
use Rattle.std.specs.Ordering.{eq_by_cmp}
use Rattle.std.proofs.lemmas.Cmp.{nat_list_cmp_total}
use Rattle.std.proofs.lemmas.List.{get_or-map, get_or-set_same, get_or-set_other, length-map, length-set, map-set}
use Rattle.std.proofs.lemmas.Option.{same_Some, slice_get_within, get_or_from_slice_get}
use Rattle.ds_names.specs.declared.key.Key.{Key}
use Rattle.ds_names.specs.Key.{name_cmp, key_cmp}
use Rattle.ds_names.proofs.OrderLemmas.{keys_total}
use Rattle.ds_entry.specs.Change.{ChangeRecord}
use Rattle.ds_entry.specs.declared.floor.Floor.{Floor}
use Rattle.ds_entry.specs.declared.item.Item.{Item}
use Rattle.ds_entry.specs.declared.item.Item.TheVariants.{Change as Changed, Floor as Floored}
use Rattle.ds_entry.proofs.CoversLemmas.{same_key, same_key-refl, same_name, same_name-refl}
use Rattle.ds_held.specs.Held.{Holding, held_items, held_changes, held_floors, held_for, floor_for, floor_count, IsSound}
use Rattle.ds_held.proofs.HeldLemmas.{is_held}
use Rattle.ds_index.specs.Marked.{MarkedHolding, mark_for, floor_mark_for, remarked, floor_remarked}
use Rattle.ds_pattern.specs.declared.query.Query.{Query}
use Rattle.ds_watch.specs.Mask.{padded}
use Rattle.ds_watch.specs.Masks.{shown_to, made_at}
use Rattle.ds_watch.specs.Watching.{Watching, watching}
use Rattle.ds_watch.specs.declared.masks.Masks.{Masks}
use Rattle.ds_content.specs.Followed.{watches_item}
use Rattle.ds_content.specs.Kept.{AreMarked, ArePending, masks_at, under_at, unseen_at}
use Rattle.ds_content.specs.Marking.{IsSet, IsRemarked, AreRemarked}
use Rattle.ds_content.specs.Shown.{IsRestOf}
use Rattle.ds_content.proofs.FlagLemmas.{apart, index_of, index_among, cleared, below_or_not, below_or_at}
use Rattle.ds_content.proofs.HoldingLemmas.{floor_item_at, change_item_at, top_itself}
use Rattle.ds_content.proofs.PendingLemmas.{set_flag, and_second}
use Rattle.ds_pattern.specs.Under.{is_under}
use Rattle.ds_entry.specs.Item.{passes}

-- ---- other masks for one item
module _ (old new : MarkedHolding Masks) (sound : IsSound old.held) (index : ℕ) (m : Masks) (held : new.held ≡ old.held) where
  once : (i j : Item) (k : ℕ) → slice_get (held_items old.held) k ≡ Some i → slice_get (held_items old.held) index ≡ Some j →
      (k ≡ index → ⊥) → j ≡ i → ⊥
  once i j k at here n e = n (apart (held_items old.held) (top_itself old.held sound).in_order index k j here
      (at ∙ ap (λ x. Some x) (sym e)))

  -- of a floor
  module _ (low : index < floor_count old.held) (marks : new.marks ≡ old.marks)
      (floors : new.floor_marks ≡ floor_remarked old.floor_marks (slice_get (held_floors old.held) index) m) where
    at_owner : (f : Floor) → slice_get (held_floors old.held) index ≡ Some f → (owner : List ℕ) (b : Bool) →
        eq_by_cmp name_cmp owner f.owner ≡ b → floor_mark_for new owner ≡ cond b (Some m) (floor_mark_for old owner)
    at_owner f e owner b q =
        ap (λ (x : FinMap name_cmp Masks). get x owner) (floors ∙ ap (λ o. floor_remarked old.floor_marks o m) e)
        ∙ get-insert nat_list_cmp_total old.floor_marks f.owner m owner ∙ ap (λ t. cond t (Some m) (get old.floor_marks owner)) q

    floor_here : (o : Option Floor) → slice_get (held_floors old.held) index ≡ o → (i : Item) → option_map (λ f. Floored f) o ≡ Some i →
        masks_at new i ≡ Some m
    floor_here None e i q = absurd (cc)
    floor_here (Some f) e i q = subst (λ (x : Item). masks_at new x ≡ Some m) (same_Some (Floored f) i q)
        (at_owner f e f.owner true (same_name-refl f.owner f.owner refl))

    floor_others : (o : Option Floor) → slice_get (held_floors old.held) index ≡ o → (i : Item) (k : ℕ) →
        slice_get (held_items old.held) k ≡ Some i → (k ≡ index → ⊥) → masks_at new i ≡ masks_at old i
    floor_others o e (Changed c) k at n = ap (λ (x : FinMap key_cmp Masks). get x c.key) marks
    floor_others None e (Floored g) k at n = ap (λ (x : FinMap name_cmp Masks). get x g.owner)
        (floors ∙ ap (λ o. floor_remarked old.floor_marks o m) e)
    floor_others (Some f) e (Floored g) k at n = by_test (eq_by_cmp name_cmp g.owner f.owner) refl
      where
        here : slice_get (held_items old.held) index ≡ Some (Floored f)
        here = floor_item_at old.held index low ∙ ap (option_map (λ f. Floored f)) e

        by_test : (b : Bool) → eq_by_cmp name_cmp g.owner f.owner ≡ b → masks_at new (Floored g) ≡ masks_at old (Floored g)
        by_test false q = at_owner f e g.owner false q
        by_test true q =
            let owner : g.owner ≡ f.owner = same_name g.owner f.owner q in
            let this : floor_for old.held g.owner ≡ Some g.generation =
            is_held old.held sound (Floored g) (index_among (held_items old.held) k (Floored g) at) in
            let that : floor_for old.held f.owner ≡ Some f.generation =
            is_held old.held sound (Floored f) (index_among (held_items old.held) index (Floored f) here) in
            let generation : g.generation ≡ f.generation =
            same_Some g.generation f.generation (sym this ∙ ap (floor_for old.held) owner ∙ that) in
            let one : f ≡ g = λ i. record { owner = sym owner i; generation = sym generation i } in
            absurd (once (Floored g) (Floored f) k at here n (ap (λ x. Floored x) one))

    pub set_floor : IsSet old new index m
    set_floor = record {
      held = held;
      here = λ i e. floor_here (slice_get (held_floors old.held) index) refl i (sym (floor_item_at old.held index low) ∙ e);
      others = λ i k e n. floor_others (slice_get (held_floors old.held) index) refl i k e n;
    }

  -- of a change
  module _ (j : ℕ) (high : index ≡ floor_count old.held + j) (floors : new.floor_marks ≡ old.floor_marks)
      (marks : new.marks ≡ remarked old.marks (slice_get (held_changes old.held) j) m) where
    at_key : (c : ChangeRecord) → slice_get (held_changes old.held) j ≡ Some c → (key : Key) (b : Bool) → eq_by_cmp key_cmp key c.key ≡ b →
        mark_for new key ≡ cond b (Some m) (mark_for old key)
    at_key c e key b q =
        ap (λ (x : FinMap key_cmp Masks). get x key) (marks ∙ ap (λ o. remarked old.marks o m) e)
        ∙ get-insert keys_total old.marks c.key m key ∙ ap (λ t. cond t (Some m) (get old.marks key)) q

    change_here : (o : Option ChangeRecord) → slice_get (held_changes old.held) j ≡ o → (i : Item) →
        option_map (λ c. Changed c) o ≡ Some i → masks_at new i ≡ Some m
    change_here None e i q = absurd (cc)
    change_here (Some c) e i q = subst (λ (x : Item). masks_at new x ≡ Some m) (same_Some (Changed c) i q)
        (at_key c e c.key true (same_key-refl c.key c.key refl))

    change_others : (o : Option ChangeRecord) → slice_get (held_changes old.held) j ≡ o → (i : Item) (k : ℕ) →
        slice_get (held_items old.held) k ≡ Some i → (k ≡ index → ⊥) → masks_at new i ≡ masks_at old i
    change_others o e (Floored g) k at n = ap (λ (x : FinMap name_cmp Masks). get x g.owner) floors
    change_others None e (Changed d) k at n = ap (λ (x : FinMap key_cmp Masks). get x d.key) (marks ∙ ap (λ o. remarked old.marks o m) e)
    change_others (Some c) e (Changed d) k at n = by_test (eq_by_cmp key_cmp d.key c.key) refl
      where
        here : slice_get (held_items old.held) index ≡ Some (Changed c)
        here = change_item_at old.held index j high ∙ ap (option_map (λ c. Changed c)) e

        by_test : (b : Bool) → eq_by_cmp key_cmp d.key c.key ≡ b → masks_at new (Changed d) ≡ masks_at old (Changed d)
        by_test false q = at_key c e d.key false q
        by_test true q =
            let key : d.key ≡ c.key = same_key d.key c.key q in
            let this : held_for old.held d.key ≡ Some d =
            is_held old.held sound (Changed d) (index_among (held_items old.held) k (Changed d) at) in
            let that : held_for old.held c.key ≡ Some c =
            is_held old.held sound (Changed c) (index_among (held_items old.held) index (Changed c) here) in
            let one : d ≡ c = same_Some d c (sym this ∙ ap (λ (x : Key). held_for old.held x) key ∙ that) in
            absurd (once (Changed d) (Changed c) k at here n (ap (λ x. Changed x) (sym one)))

    pub set_change : IsSet old new index m
    set_change = record {
      held = held;
      here = λ i e. change_here (slice_get (held_changes old.held) j) refl i (sym (change_item_at old.held index j high) ∙ e);
      others = λ i k e n. change_others (slice_get (held_changes old.held) j) refl i k e n;
    }

pub set_is_remarked : (old new : MarkedHolding Masks) (index : ℕ) (f : Masks → Masks) (m : Masks) →
    ((i : Item) → slice_get (held_items old.held) index ≡ Some i → Some m ≡ masks_at old i) → IsSet old new index (f m) →
    IsRemarked old new index f
set_is_remarked old new index f m here is = record {
  held = is.held;
  here = λ i e. is.here i e ∙ ap (option_map f) (here i e);
  others = is.others;
}

-- ---- the first ones
pub none_remarked : (h : MarkedHolding Masks) (f : ℕ → Masks → Masks) → AreRemarked h h 0 f
none_remarked h f = record { held = refl; first = λ k i e l. absurd (omega arith); rest = λ k i e l. refl }

pub remarked_more : (old mid new : MarkedHolding Masks) (n : ℕ) (f : ℕ → Masks → Masks) → AreRemarked old mid n f →
    IsRemarked mid new n (f n) → AreRemarked old new (n + 1) f
remarked_more old mid new n f so_far one = record {
  held = one.held ∙ so_far.held;
  first = λ k i e l. by_place k i e (below_or_at k n l);
  rest = λ k i e l. one.others i k (there k i e) (λ q. omega (arith, q, l)) ∙ so_far.rest k i e (omega (arith, l));
}
  where
    there : (k : ℕ) (i : Item) → slice_get (held_items old.held) k ≡ Some i → slice_get (held_items mid.held) k ≡ Some i
    there k i e = ap (λ (h : Holding). slice_get (held_items h) k) so_far.held ∙ e

    by_place : (k : ℕ) (i : Item) → slice_get (held_items old.held) k ≡ Some i → (k < n) ⊎ (k ≡ n) →
        masks_at new i ≡ option_map (f k) (masks_at old i)
    by_place k i e (inl l) = one.others i k (there k i e) (λ q. omega (arith, q, l)) ∙ so_far.first k i e l
    by_place k i e (inr q) =
        let here : slice_get (held_items old.held) n ≡ Some i = ap (slice_get (held_items old.held)) (sym q) ∙ e in
        one.here i (there n i here) ∙ ap (option_map (f n)) (so_far.rest n i here (omega arith)) ∙
        ap (λ j. option_map (f j) (masks_at old i)) (sym q)

-- ---- what the masks are then
shown_under : (sub : ℕ) (o : Option Masks) →
    option_map_or (λ (m : Masks). m.under) (option_map (shown_to sub) o) [] ≡ option_map_or (λ (m : Masks). m.under) o []
shown_under sub None = refl
shown_under sub (Some m) = refl

shown_long : (sub : ℕ) (o : Option Masks) →
    length (option_map_or (λ (m : Masks). m.unseen) (option_map (shown_to sub) o) []) ≡ length
    (option_map_or (λ (m : Masks). m.unseen) o [])
shown_long sub None = refl
shown_long sub (Some m) = length-set m.unseen sub false

shown_here : (sub : ℕ) (o : Option Masks) →
    get_or (option_map_or (λ (m : Masks). m.unseen) (option_map (shown_to sub) o) []) sub false ≡ false
shown_here zero None = refl
shown_here (suc sub) None = refl
shown_here sub (Some m) = cleared m.unseen sub

shown_others : (sub k : ℕ) (o : Option Masks) → (k ≡ sub → ⊥) →
    get_or (option_map_or (λ (m : Masks). m.unseen) (option_map (shown_to sub) o) []) k false ≡ get_or
    (option_map_or (λ (m : Masks). m.unseen) o []) k false
shown_others sub k None n = refl
shown_others sub k (Some m) n = get_or-set_other m.unseen sub k false false n

made_under : (sub : ℕ) (u i : Bool) (o : Option Masks) → length (option_map_or (λ (m : Masks). m.unseen) o []) ≡ 128
    → option_map_or (λ (m : Masks). m.under) (option_map (made_at sub u i) o) [] ≡ set (option_map_or (λ (m : Masks). m.under) o []) sub u
made_under sub u i None long = absurd (omega (arith, long))
made_under sub u i (Some m) long = refl

made_long : (sub : ℕ) (u i : Bool) (o : Option Masks) →
    length (option_map_or (λ (m : Masks). m.unseen) (option_map (made_at sub u i) o) []) ≡ length
    (option_map_or (λ (m : Masks). m.unseen) o [])
made_long sub u i None = refl
made_long sub u i (Some m) = length-set m.unseen sub (u && i)

made_here : (sub : ℕ) (u i : Bool) (o : Option Masks) → sub < 128 → length (option_map_or (λ (m : Masks). m.unseen) o []) ≡ 128 →
    get_or (option_map_or (λ (m : Masks). m.unseen) (option_map (made_at sub u i) o) []) sub false ≡ u && i
made_here sub u i None l long = absurd (omega (arith, long))
made_here sub u i (Some m) l long = get_or-set_same m.unseen sub (u && i) false (omega (arith, long, l))

made_others : (sub k : ℕ) (u i : Bool) (o : Option Masks) → (k ≡ sub → ⊥) →
    get_or (option_map_or (λ (m : Masks). m.unseen) (option_map (made_at sub u i) o) []) k false ≡ get_or
    (option_map_or (λ (m : Masks). m.unseen) o []) k false
made_others sub k u i None n = refl
made_others sub k u i (Some m) n = get_or-set_other m.unseen sub k (u && i) false n

-- another stamp leaves the items under the query
same_watches : (i : Item) (ws : List (Option Watching)) (sub : ℕ) (w : Watching) (stamp : ℕ) → get_or ws sub None ≡ Some w →
    map (watches_item i) (set ws sub (Some (watching w.query stamp))) ≡ map (watches_item i) ws
same_watches i [] zero w stamp e = refl
same_watches i [] (suc sub) w stamp e = refl
same_watches i (x ∷ ws) zero w stamp e = ap (λ o. watches_item i o ∷ map (watches_item i) ws) (sym e)
same_watches i (x ∷ ws) (suc sub) w stamp e = ap (λ l. watches_item i x ∷ l) (same_watches i ws sub w stamp e)

-- ---- after something was shown
module _ (old new : MarkedHolding Masks) (count sub : ℕ) (all : AreRemarked old new count (λ k. shown_to sub)) where
  -- at each index the masks are those after it was shown, or those that they were
  by_index : (P : Option Masks → Option Masks → Type 0) → ((o : Option Masks) → P (option_map (shown_to sub) o) o) →
      ((o : Option Masks) → P o o)
      → (i : Item) → Contains (held_items old.held) i → P (masks_at new i) (masks_at old i)
  by_index P shown same i h =
      let at = index_of (held_items old.held) i h in
      by_place at.0 at.1 (below_or_not at.0 count)
    where
      by_place : (k : ℕ) → slice_get (held_items old.held) k ≡ Some i → (k < count) ⊎ (count ≤ k) → P (masks_at new i) (masks_at old i)
      by_place k e (inl l) = subst (λ o. P o (masks_at old i)) (sym (all.first k i e l)) (shown (masks_at old i))
      by_place k e (inr m) = subst (λ o. P o (masks_at old i)) (sym (all.rest k i e m)) (same (masks_at old i))

  there : (i : Item) → Contains (held_items new.held) i → Contains (held_items old.held) i
  there i h = subst (λ (x : Holding). Contains (held_items x) i) all.held h

  check_under : (i : Item) → Contains (held_items old.held) i → under_at new i ≡ under_at old i
  check_under = by_index (λ o p. option_map_or (λ (m : Masks). m.under) o [] ≡ option_map_or (λ (m : Masks). m.under) p [])
      (shown_under sub) (λ o. refl)

  check_long : (i : Item) → Contains (held_items old.held) i → length (unseen_at new i) ≡ length (unseen_at old i)
  check_long = by_index (λ o p. length (option_map_or (λ (m : Masks). m.unseen) o []) ≡ length
      (option_map_or (λ (m : Masks). m.unseen) p [])) (shown_long sub) (λ o. refl)

  pub check_others : (i : Item) → Contains (held_items old.held) i → (k : ℕ) → (k ≡ sub → ⊥) →
      get_or (unseen_at new i) k false ≡ get_or (unseen_at old i) k false
  check_others i h k n =
      by_index (λ o p. get_or (option_map_or (λ (m : Masks). m.unseen) o []) k false ≡ get_or
      (option_map_or (λ (m : Masks). m.unseen) p []) k false) (λ o. shown_others sub k o n) (λ o. refl) i h

  pub check_first : (k : ℕ) (i : Item) → slice_get (held_items old.held) k ≡ Some i → k < count → get_or (unseen_at new i) sub false ≡ false
  check_first k i e l = ap (λ (o : Option Masks). get_or (option_map_or (λ (m : Masks). m.unseen) o []) sub false) (all.first k i e l) ∙
      shown_here sub (masks_at old i)

  pub check_rest : (k : ℕ) (i : Item) → slice_get (held_items old.held) k ≡ Some i → count ≤ k →
      get_or (unseen_at new i) sub false ≡ get_or (unseen_at old i) sub false
  check_rest k i e m = ap (λ (o : Option Masks). get_or (option_map_or (λ (m : Masks). m.unseen) o []) sub false) (all.rest k i e m)

  pub checked_marked : (ws : List (Option Watching)) (w : Watching) (stamp : ℕ) → get_or ws sub None ≡ Some w → AreMarked old ws →
      AreMarked new (set ws sub (Some (watching w.query stamp)))
  checked_marked ws w stamp here are = record {
    under = λ i h. check_under i (there i h) ∙ are.under i (there i h) ∙ ap padded (sym (same_watches i ws sub w stamp here));
    long = λ i h. check_long i (there i h) ∙ are.long i (there i h);
  }

  -- where there may be no more, nothing is to be shown
  check_none : (more : Bool) → IsRestOf old sub count more → more ≡ false → (i : Item) → Contains (held_items old.held) i →
      get_or (unseen_at new i) sub false ≡ false
  check_none more rest none i h =
      let at = index_of (held_items old.held) i h in
      elim (below_or_not at.0 count) [ inl l ↦ check_first at.0 i at.1 l | inr m ↦ check_rest at.0 i at.1 m ∙ rest none at.0 i at.1 m ]

  pub check_pending : (pending : List Bool) (more : Bool) → sub < 128 → IsRestOf old sub count more → ArePending old pending →
      ArePending new (set pending sub more)
  check_pending pending more place rest before = record {
    long = length-set pending sub more ∙ before.long;
    each = λ i k h. set_flag pending sub more (subst (λ n. sub < n) (sym before.long) place) k (get_or (unseen_at new i) k false)
        (λ e t. by_more more refl i (there i h) (subst (λ n. get_or (unseen_at new i) n false ≡ true) e t))
        (λ d t. before.each i k (there i h) (sym (check_others i (there i h) k d) ∙ t));
  }
    where
      by_more : (b : Bool) → more ≡ b → (i : Item) → Contains (held_items old.held) i → get_or (unseen_at new i) sub false ≡ true →
          more ≡ true
      by_more true q i h t = q
      by_more false q i h t = absurd (let no : false ≡ true = sym (check_none more rest q i h) ∙ t in cc)

-- ---- after a subscription was made
set_padded : (fs rest : List Bool) (sub : ℕ) (b : Bool) → sub < length fs → set (fs ++ rest) sub b ≡ set fs sub b ++ rest
set_padded [] rest sub b l = absurd (omega arith)
set_padded (f ∷ fs) rest zero b l = refl
set_padded (f ∷ fs) rest (suc sub) b l = ap (λ t. f ∷ t) (set_padded fs rest sub b (omega arith))

padded_set : (fs : List Bool) (sub : ℕ) (b : Bool) → sub < length fs → set (padded fs) sub b ≡ padded (set fs sub b)
padded_set fs sub b l =
    set_padded fs (replicate (128 - length fs) false) sub b l ∙
    ap (λ n. set fs sub b ++ replicate (128 - n) false) (sym (length-set fs sub b))

module _ (old new : MarkedHolding Masks) (sub : ℕ) (place : sub < 128) (q : Query) (initial : Bool) (flags : List Bool)
    (is : flags ≡ map (passes (is_under q)) (held_items old.held))
    (all : AreRemarked old new (length flags) (λ k. made_at sub (get_or flags k false) initial)) where
  -- each held item has the masks after it was made
  made_each : (i : Item) → Contains (held_items old.held) i →
      masks_at new i ≡ option_map (made_at sub (passes (is_under q) i) initial) (masks_at old i)
  made_each i h =
      let at = index_of (held_items old.held) i h in
      let within : at.0 < length (held_items old.held) = slice_get_within (held_items old.held) at.0 i at.1 in
      let long : length flags ≡ length (held_items old.held) =
      ap (λ (fs : List Bool). length fs) is ∙ length-map (held_items old.held) (passes (is_under q)) in
      let flag : get_or flags at.0 false ≡ passes (is_under q) i =
      ap (λ (fs : List Bool). get_or fs at.0 false) is ∙ get_or-map (passes (is_under q)) (held_items old.held) at.0 i false within
      ∙ ap (passes (is_under q)) (get_or_from_slice_get (held_items old.held) at.0 i i at.1) in
      all.first at.0 i at.1 (omega (arith, within, long)) ∙ ap (λ b. option_map (made_at sub b initial) (masks_at old i)) flag

  here_too : (i : Item) → Contains (held_items new.held) i → Contains (held_items old.held) i
  here_too i h = subst (λ (x : Holding). Contains (held_items x) i) all.held h

  pub made_flag : (i : Item) → Contains (held_items old.held) i → length (unseen_at old i) ≡ 128 →
      get_or (unseen_at new i) sub false ≡ passes (is_under q) i && initial
  made_flag i h long =
      ap (λ (o : Option Masks). get_or (option_map_or (λ (m : Masks). m.unseen) o []) sub false) (made_each i h) ∙
      made_here sub (passes (is_under q) i) initial (masks_at old i) place long

  pub made_other : (i : Item) → Contains (held_items old.held) i → (k : ℕ) → (k ≡ sub → ⊥) →
      get_or (unseen_at new i) k false ≡ get_or (unseen_at old i) k false
  made_other i h k n =
      ap (λ (o : Option Masks). get_or (option_map_or (λ (m : Masks). m.unseen) o []) k false) (made_each i h) ∙
      made_others sub k (passes (is_under q) i) initial (masks_at old i) n

  -- and the content is marked by its subscriptions
  pub made_marked : (ws : List (Option Watching)) (w : Watching) → sub < length ws → w.query ≡ q → AreMarked old ws →
      AreMarked new (set ws sub (Some w))
  made_marked ws w within same are = record {
    under = λ i h.
        (let k = here_too i h in
        let few : sub < length (map (watches_item i) ws) = subst (λ n. sub < n) (sym (length-map ws (watches_item i))) within in
        ap (λ (o : Option Masks). option_map_or (λ (m : Masks). m.under) o []) (made_each i k) ∙
        made_under sub (passes (is_under q) i) initial (masks_at old i) (are.long i k)
        ∙ ap₂ (λ fs b. set fs sub b) (are.under i k) (ap (λ (x : Query). passes (is_under x) i) (sym same)) ∙
        padded_set (map (watches_item i) ws) sub (passes (is_under w.query) i) few
        ∙ ap padded (sym (map-set (watches_item i) ws sub (Some w))));
    long = λ i h. ap (λ (o : Option Masks). length (option_map_or (λ (m : Masks). m.unseen) o [])) (made_each i (here_too i h)) ∙
        made_long sub (passes (is_under q) i) initial (masks_at old i) ∙ are.long i (here_too i h);
  }

  pub made_pending : (pending : List Bool) → ((i : Item) → Contains (held_items old.held) i → length (unseen_at old i) ≡ 128) →
      ArePending old pending → ArePending new (set pending sub initial)
  made_pending pending long before = record {
    long = length-set pending sub initial ∙ before.long;
    each = λ i k h.
        set_flag pending sub initial (subst (λ n. sub < n) (sym before.long) place) k (get_or (unseen_at new i) k false)
        (λ e t. and_second (passes (is_under q) i) initial
        (sym (made_flag i (here_too i h) (long i (here_too i h))) ∙ subst (λ n. get_or (unseen_at new i) n false ≡ true) e t))
        (λ d t. before.each i k (here_too i h) (sym (made_other i (here_too i h) k d) ∙ t));
  }
