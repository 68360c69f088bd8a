-- Merging a change is a join.
use Rattle.std.proofs.Common.{◌≡◌, ℕ, true, false, [], ◌∷◌, ◌++◌, cond, Bool, Option, Some, None, Result, Ok, Err, refl, sym, ap, ◌∙◌}
use Rattle.std.proofs.Common.{subst, inl, inr, Contains}
use Rattle.std.specs.Result.{OnOk}
use Rattle.std.proofs.lemmas.Option.{same_Some}
use Rattle.std.proofs.lemmas.List.Elements.{Contains-push, Contains-push_cases, Contains-append_left}
use Rattle.std.specs.declared.cmp.Ordering.TheVariants.{Less, Greater}
use Rattle.std.specs.Ordering.{eq_by_cmp, is_le, ordering_reverse}
use Rattle.std.specs.FinMap.{get-insert}
use Rattle.ds_names.specs.declared.key.Key.{Key}
use Rattle.ds_names.specs.Key.{key_cmp}
use Rattle.ds_names.specs.Version.{version_cmp}
use Rattle.ds_names.proofs.OrderLemmas.{keys_total, versions_total}
use Rattle.ds_entry.specs.Change.{ChangeRecord}
use Rattle.ds_entry.specs.Floor.{floor_of}
use Rattle.ds_entry.specs.ItemCovers.{covers}
use Rattle.ds_entry.specs.declared.item.Item.{Item}
use Rattle.ds_entry.specs.declared.item.Item.TheVariants.{Change as Changed, Floor as Floored}
use Rattle.ds_entry.proofs.CoversLemmas.{same_key, same_key-refl, covers-make}
use Rattle.ds_entry.proofs.ItemLemmas.{covers-refl}
use Rattle.ds_join.specs.declared.merge.Merge.{Merge}
use Rattle.ds_join.specs.declared.merge.Merge.TheVariants.{Taken, Known, Stale}
use Rattle.ds_join.specs.declared.merge.JoinFault.{JoinFault}
use Rattle.ds_join.specs.ItemTop.{IsTop}
use Rattle.ds_held.specs.Held.{Holding, held_items, held_for, held_count, floor_for, is_below, is_void_at, IsSound}
use Rattle.ds_held.specs.Merge.{AnswersFor, AnswersNew, AnswersOwn, MergeAnswer, after_merge}
use Rattle.ds_held.proofs.HeldLemmas.{IsHeld, is_in, is_held, floor_in, change_in, held_is_top}

pub no_some : {A X : Type 0} (x : X) → None ≡ Some x → A
no_some x e = absurd (cc)

-- ---- an item that is covered changes nothing
pub covered_joins : (h : Holding) → IsSound h → (i j : Item) → Contains (held_items h) j → covers j i ≡ true →
    IsTop (held_items h) (held_items h ++ i ∷ [])
covered_joins h sound i j k c =
    held_is_top h sound (held_items h ++ i ∷ []) (λ x m. Contains-append_left (held_items h) (i ∷ []) x m)
    (λ x m. elim (Contains-push_cases (held_items h) i x m) [
      | inl before ↦ (x, before, covers-refl x)
      | inr here ↦ (j, k, subst (λ (z : Item). covers j z ≡ true) here c)
    ])

-- ---- a change
module _ (old : Holding) (sound : IsSound old) (c : ChangeRecord) where
  at_key : (key : Key) → held_for (after_merge old c (Ok Taken)) key ≡ cond (eq_by_cmp key_cmp key c.key) (Some c) (held_for old key)
  at_key key = get-insert keys_total old.changes c.key c key

  sound_taken : is_void_at old c ≡ false → IsSound (after_merge old c (Ok Taken))
  sound_taken v = record {
    own = λ key d h. own key d (eq_by_cmp key_cmp key c.key) refl (sym (at_key key) ∙ h);
    none_void = λ key d h. none key d (eq_by_cmp key_cmp key c.key) (sym (at_key key) ∙ h);
  }
    where
      own : (key : Key) (d : ChangeRecord) (b : Bool) → eq_by_cmp key_cmp key c.key ≡ b → cond b (Some c) (held_for old key) ≡ Some d →
          d.key ≡ key
      own key d true e h = ap (λ (x : ChangeRecord). x.key) (sym (same_Some c d h)) ∙ sym (same_key key c.key e)
      own key d false e h = sound.own key d h

      none : (key : Key) (d : ChangeRecord) (b : Bool) → cond b (Some c) (held_for old key) ≡ Some d → is_void_at old d ≡ false
      none key d true h = subst (λ (x : ChangeRecord). is_void_at old x ≡ false) (same_Some c d h) v
      none key d false h = sound.none_void key d h

  -- a change that isn't void, and covers what is held for its key, takes its place
  taken_joins : is_void_at old c ≡ false → ((h : ChangeRecord) → held_for old c.key ≡ Some h → covers (Changed c) (Changed h) ≡ true) →
      IsTop (held_items (after_merge old c (Ok Taken))) (held_items old ++ Changed c ∷ [])
  taken_joins v over =
      held_is_top (after_merge old c (Ok Taken)) (sound_taken v) (held_items old ++ Changed c ∷ [])
      (λ i k. among i (is_held (after_merge old c (Ok Taken)) (sound_taken v) i k))
      (λ i k. elim (Contains-push_cases (held_items old) (Changed c) i k) [
        | inl before ↦ covered i (is_held old sound i before)
        | inr here ↦ (Changed c, has_new, subst (λ (z : Item). covers (Changed c) z ≡ true) here (covers-refl (Changed c)))
      ])
    where
      has_new : Contains (held_items (after_merge old c (Ok Taken))) (Changed c)
      has_new = change_in (after_merge old c (Ok Taken)) c.key c
          (at_key c.key ∙ ap (λ b. cond b (Some c) (held_for old c.key)) (same_key-refl c.key c.key refl))

      among_key : (d : ChangeRecord) (b : Bool) → cond b (Some c) (held_for old d.key) ≡ Some d →
          Contains (held_items old ++ Changed c ∷ []) (Changed d)
      among_key d true h = subst (λ (y : ChangeRecord). Contains (held_items old ++ Changed c ∷ []) (Changed y)) (same_Some c d h)
          (Contains-push (held_items old) (Changed c))
      among_key d false h = Contains-append_left (held_items old) (Changed c ∷ []) (Changed d) (change_in old d.key d h)

      among : (i : Item) → IsHeld (after_merge old c (Ok Taken)) i → Contains (held_items old ++ Changed c ∷ []) i
      among (Changed d) h = among_key d (eq_by_cmp key_cmp d.key c.key) (sym (at_key d.key) ∙ h)
      among (Floored f) h = Contains-append_left (held_items old) (Changed c ∷ []) (Floored f) (is_in old (Floored f) h)

      covered_key : (x : ChangeRecord) → held_for old x.key ≡ Some x → (b : Bool) → eq_by_cmp key_cmp x.key c.key ≡ b →
          (d : Item) × Contains (held_items (after_merge old c (Ok Taken))) d × (covers d (Changed x) ≡ true)
      covered_key x h true e = (Changed c, has_new, over x (ap (λ (key : Key). held_for old key) (sym (same_key x.key c.key e)) ∙ h))
      covered_key x h false e = (
        Changed x,
        change_in (after_merge old c (Ok Taken)) x.key x
            (at_key x.key ∙ ap (λ b. cond b (Some c) (held_for old x.key)) e ∙ h),
        covers-refl (Changed x),
      )

      covered : (i : Item) → IsHeld old i → (d : Item) × Contains (held_items (after_merge old c (Ok Taken))) d × (covers d i ≡ true)
      covered (Changed x) h = covered_key x h (eq_by_cmp key_cmp x.key c.key) refl
      covered (Floored f) h = (Floored f, is_in (after_merge old c (Ok Taken)) (Floored f) h, covers-refl (Floored f))

  newer : (h : ChangeRecord) → h.key ≡ c.key → h.owner ≡ c.owner → version_cmp h.version c.version ≡ Less →
      covers (Changed c) (Changed h) ≡ true
  newer h k o v = covers-make c h k o (ap is_le v)

  older : (h : ChangeRecord) → h.key ≡ c.key → h.owner ≡ c.owner → version_cmp h.version c.version ≡ Greater →
      covers (Changed h) (Changed c) ≡ true
  older h k o v = covers-make h c (sym k) (sym o) (ap is_le (versions_total.antisymm c.version h.version ∙ ap ordering_reverse v))

  -- the floor of its owner covers a void change
  void_joins : is_void_at old c ≡ true → IsTop (held_items old) (held_items old ++ Changed c ∷ [])
  void_joins v = by_floor (floor_for old c.owner) refl v
    where
      by_floor : (o : Option ℕ) → floor_for old c.owner ≡ o → is_below o c ≡ true →
          IsTop (held_items old) (held_items old ++ Changed c ∷ [])
      by_floor None e w = absurd (cc)
      by_floor (Some g) e w = covered_joins old sound (Changed c) (Floored (floor_of c.owner g)) (floor_in old c.owner g e) w

  -- what a merge leaves: the holder is sound, and what isn't refused leaves the join
  pub record Merged (r : Result Merge JoinFault) : Type 0 where
    pub sound_after : IsSound (after_merge old c r)
    pub joined : OnOk r (IsTop (held_items (after_merge old c r)) (held_items old ++ Changed c ∷ []))

  stale : is_void_at old c ≡ true → (r : Result Merge JoinFault) → r ≡ Ok Stale → Merged r
  stale v r e = subst Merged (sym e) (record { sound_after = sound; joined = void_joins v })

  by_own : (h : ChangeRecord) → held_for old c.key ≡ Some h → h.owner ≡ c.owner → is_void_at old c ≡ false → (r : Result Merge JoinFault) →
      AnswersOwn h c r → Merged r
  by_own h e o v (Ok Taken) a =
      record {
        sound_after = sound_taken v;
        joined = taken_joins v
            (λ x at. subst (λ (y : ChangeRecord). covers (Changed c) (Changed y) ≡ true) (same_Some h x (sym e ∙ at))
            (newer h (sound.own c.key h e) o a));
      }
  by_own h e o v (Ok Known) a = record {
    sound_after = sound;
    joined = covered_joins old sound (Changed c) (Changed h) (change_in old c.key h e)
        (subst (λ (y : ChangeRecord). covers (Changed h) (Changed y) ≡ true) a (covers-refl (Changed h)));
  }
  by_own h e o v (Ok Stale) a =
      record {
        sound_after = sound;
        joined = covered_joins old sound (Changed c) (Changed h) (change_in old c.key h e)
            (older h (sound.own c.key h e) o a);
      }
  by_own h e o v (Err fault) a = record { sound_after = sound; joined = tt }

  by_new : held_for old c.key ≡ None → is_void_at old c ≡ false → (n m : ℕ) (r : Result Merge JoinFault) → AnswersNew n m r → Merged r
  by_new e v n m (Ok Taken) a = record { sound_after = sound_taken v; joined = taken_joins v (λ h at. no_some h (sym e ∙ at)) }
  by_new e v n m (Ok Known) a = absurd a
  by_new e v n m (Ok Stale) a = absurd a
  by_new e v n m (Err fault) a = record { sound_after = sound; joined = tt }

  by_held : (o : Option ChangeRecord) (b : Bool) (n m : ℕ) (r : Result Merge JoinFault) → held_for old c.key ≡ o → is_void_at old c ≡ b →
      AnswersFor o b n m c r → Merged r
  by_held None true n m r e v a = stale v r a
  by_held None false n m r e v a = by_new e v n m r a
  by_held (Some h) b n m r e v (inl a) = subst Merged (sym a.1) (record { sound_after = sound; joined = tt })
  by_held (Some h) true n m r e v (inr a) = stale v r a.1
  by_held (Some h) false n m r e v (inr a) = by_own h e a.0 v r a.1

  pub merge_joins : (r : Result Merge JoinFault) → MergeAnswer old c r → Merged r
  merge_joins r a = by_held (held_for old c.key) (is_void_at old c) (held_count old) old.limits.keys r refl refl a
