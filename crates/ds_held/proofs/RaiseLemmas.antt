-- Raising a floor is a join.
use Rattle.std.proofs.Common.{◌≡◌, ℕ, ◌<◌, ◌≤◌, not, true, false, List, [], ◌∷◌, ◌++◌, cond, Bool, Option, Some, None, Result, Ok, Err}
use Rattle.std.proofs.Common.{refl, sym, ap, ◌∙◌, subst, inl, inr, arith, Contains}
use Rattle.std.specs.Result.{OnOk}
use Rattle.std.proofs.lemmas.Option.{same_Some}
use Rattle.std.proofs.lemmas.List.Elements.{Contains-push, Contains-push_cases, Contains-append_left}
use Rattle.std.proofs.lemmas.Cmp.{nat_list_cmp_total}
use Rattle.std.specs.Ordering.{eq_by_cmp}
use Rattle.std.specs.FinMap.{get, get-insert, get-retain_keys}
use Rattle.ds_names.specs.declared.key.Key.{Key}
use Rattle.ds_names.specs.Key.{name_cmp}
use Rattle.ds_names.proofs.OrderLemmas.{exact_keys}
use Rattle.ds_entry.specs.Change.{ChangeRecord}
use Rattle.ds_entry.specs.Floor.{floor_of}
use Rattle.ds_entry.specs.ItemCovers.{covers}
use Rattle.ds_entry.specs.Void.{voids}
use Rattle.ds_entry.specs.declared.floor.Floor.{Floor}
use Rattle.ds_entry.specs.declared.item.Item.{Item}
use Rattle.ds_entry.specs.declared.item.Item.TheVariants.{Change as Changed, Floor as Floored}
use Rattle.ds_entry.proofs.CoversLemmas.{same_name, same_name-refl}
use Rattle.ds_entry.proofs.ItemLemmas.{covers-refl, below-make}
use Rattle.ds_join.specs.declared.merge.Merge.{Merge}
use Rattle.ds_join.specs.declared.merge.Merge.TheVariants.{Taken, Known, Stale}
use Rattle.ds_join.specs.declared.merge.JoinFault.{JoinFault}
use Rattle.ds_join.specs.ItemTop.{IsTop}
use Rattle.ds_held.specs.Held.{Holding, held_items, held_for, floor_for, floor_count, is_below, is_void_at, IsSound}
use Rattle.ds_held.specs.Raise.{AnswersFloor, RaiseAnswer, after_raise, stays}
use Rattle.ds_held.proofs.HeldLemmas.{IsHeld, is_in, is_held, floor_in, change_in, held_is_top}
use Rattle.ds_held.proofs.MergeLemmas.{no_some, covered_joins}

module _ (old : Holding) (sound : IsSound old) (f : Floor) where
  floor_after : (owner : List ℕ) → floor_for (after_raise old f (Ok Taken)) owner ≡ cond (eq_by_cmp name_cmp owner f.owner)
      (Some f.generation) (floor_for old owner)
  floor_after owner = get-insert nat_list_cmp_total old.floors f.owner f.generation owner

  held_after : (key : Key) → held_for (after_raise old f (Ok Taken)) key ≡ cond (stays f (held_for old key)) (held_for old key) None
  held_after key = get-retain_keys old.changes (λ k. stays f (get old.changes k)) key
      (λ x t. ap (λ k. stays f (get old.changes k)) (sym (exact_keys key x t)))

  kept : (o : Option ChangeRecord) (d : ChangeRecord) → cond (stays f o) o None ≡ Some d → (o ≡ Some d) × (voids f d ≡ false)
  kept None d h = absurd (cc)
  kept (Some x) d h = by_test (voids f x) refl h
    where
      by_test : (b : Bool) → voids f x ≡ b → cond (not b) (Some x) None ≡ Some d → (Some x ≡ Some d) × (voids f d ≡ false)
      by_test true e h = no_some d h
      by_test false e h = (h, subst (λ (y : ChangeRecord). voids f y ≡ false) (same_Some x d h) e)

  kept_at : (key : Key) (d : ChangeRecord) → held_for (after_raise old f (Ok Taken)) key ≡ Some d →
      (held_for old key ≡ Some d) × (voids f d ≡ false)
  kept_at key d h = kept (held_for old key) d (sym (held_after key) ∙ h)

  keeps : (key : Key) (d : ChangeRecord) → held_for old key ≡ Some d → voids f d ≡ false →
      held_for (after_raise old f (Ok Taken)) key ≡ Some d
  keeps key d h v = held_after key ∙ ap (λ o. cond (stays f o) o None) h ∙ ap (λ b. cond (not b) (Some d) None) v

  sound_raised : IsSound (after_raise old f (Ok Taken))
  sound_raised = record {
    own = λ key d h. sound.own key d (kept_at key d h).0;
    none_void = λ key d h. none d (kept_at key d h).1 (sound.none_void key d (kept_at key d h).0) (eq_by_cmp name_cmp d.owner f.owner) refl;
  }
    where
      none : (d : ChangeRecord) → voids f d ≡ false → is_void_at old d ≡ false → (b : Bool) → eq_by_cmp name_cmp d.owner f.owner ≡ b →
          is_below (floor_for (after_raise old f (Ok Taken)) d.owner) d ≡ false
      none d v w true e =
          ap (λ o. is_below o d) (floor_after d.owner ∙ ap (λ b. cond b (Some f.generation) (floor_for old d.owner)) e)
          ∙ ap (λ (o : List ℕ). voids (floor_of o f.generation) d) (same_name d.owner f.owner e) ∙ v
      none d v w false e = ap (λ o. is_below o d) (floor_after d.owner ∙ ap (λ b. cond b (Some f.generation) (floor_for old d.owner)) e) ∙ w

  has_floor : Contains (held_items (after_raise old f (Ok Taken))) (Floored f)
  has_floor = is_in (after_raise old f (Ok Taken)) (Floored f)
      (floor_after f.owner ∙ ap (λ b. cond b (Some f.generation) (floor_for old f.owner)) (same_name-refl f.owner f.owner refl))

  raised_joins : ((g : ℕ) → floor_for old f.owner ≡ Some g → g ≤ f.generation) →
      IsTop (held_items (after_raise old f (Ok Taken))) (held_items old ++ Floored f ∷ [])
  raised_joins above =
      held_is_top (after_raise old f (Ok Taken)) sound_raised (held_items old ++ Floored f ∷ [])
      (λ i k. among i (is_held (after_raise old f (Ok Taken)) sound_raised i k))
      (λ i k. elim (Contains-push_cases (held_items old) (Floored f) i k) [
        | inl before ↦ covered i (is_held old sound i before)
        | inr here ↦ (Floored f, has_floor, subst (λ (z : Item). covers (Floored f) z ≡ true) here (covers-refl (Floored f)))
      ])
    where
      among_floor : (g : Floor) (b : Bool) → eq_by_cmp name_cmp g.owner f.owner ≡ b →
          cond b (Some f.generation) (floor_for old g.owner) ≡ Some g.generation → Contains (held_items old ++ Floored f ∷ []) (Floored g)
      among_floor g true e h =
          let o : f.owner ≡ g.owner = sym (same_name g.owner f.owner e) in
          let n : f.generation ≡ g.generation = same_Some f.generation g.generation h in
          subst (λ (z : Floor). Contains (held_items old ++ Floored f ∷ []) (Floored z)) (λ i. record { owner = o i; generation = n i })
          (Contains-push (held_items old) (Floored f))
      among_floor g false e h = Contains-append_left (held_items old) (Floored f ∷ []) (Floored g) (is_in old (Floored g) h)

      among : (i : Item) → IsHeld (after_raise old f (Ok Taken)) i → Contains (held_items old ++ Floored f ∷ []) i
      among (Changed d) h = Contains-append_left (held_items old) (Floored f ∷ []) (Changed d) (change_in old d.key d (kept_at d.key d h).0)
      among (Floored g) h = among_floor g (eq_by_cmp name_cmp g.owner f.owner) refl (sym (floor_after g.owner) ∙ h)

      covered_change : (x : ChangeRecord) → held_for old x.key ≡ Some x → (b : Bool) → voids f x ≡ b →
          (d : Item) × Contains (held_items (after_raise old f (Ok Taken))) d × (covers d (Changed x) ≡ true)
      covered_change x h true e = (Floored f, has_floor, e)
      covered_change x h false e =
          (Changed x, change_in (after_raise old f (Ok Taken)) x.key x (keeps x.key x h e), covers-refl (Changed x))

      covered_floor : (g : Floor) → floor_for old g.owner ≡ Some g.generation → (b : Bool) → eq_by_cmp name_cmp g.owner f.owner ≡ b →
          (d : Item) × Contains (held_items (after_raise old f (Ok Taken))) d × (covers d (Floored g) ≡ true)
      covered_floor g h true e =
          let o : g.owner ≡ f.owner = same_name g.owner f.owner e in (
            Floored f,
            has_floor,
            below-make g.owner f.owner g.generation f.generation o
                (above g.generation (ap (floor_for old) (sym o) ∙ h)),
          )
      covered_floor g h false e = (
        Floored g,
        is_in (after_raise old f (Ok Taken)) (Floored g)
            (floor_after g.owner ∙ ap (λ b. cond b (Some f.generation) (floor_for old g.owner)) e ∙ h),
        covers-refl (Floored g),
      )

      covered : (i : Item) → IsHeld old i → (d : Item) × Contains (held_items (after_raise old f (Ok Taken))) d × (covers d i ≡ true)
      covered (Changed x) h = covered_change x h (voids f x) refl
      covered (Floored g) h = covered_floor g h (eq_by_cmp name_cmp g.owner f.owner) refl

  pub record Raised (r : Result Merge JoinFault) : Type 0 where
    pub sound_after : IsSound (after_raise old f r)
    pub joined : OnOk r (IsTop (held_items (after_raise old f r)) (held_items old ++ Floored f ∷ []))

  at_most : (g : ℕ) → floor_for old f.owner ≡ Some g → f.generation ≤ g → IsTop (held_items old) (held_items old ++ Floored f ∷ [])
  at_most g e l = covered_joins old sound (Floored f) (Floored (floor_of f.owner g)) (floor_in old f.owner g e)
      (below-make f.owner f.owner f.generation g refl l)

  below_it : (g k : ℕ) → g ≡ k → g < f.generation → k ≤ f.generation
  below_it g k e l = omega arith

  by_floor : (o : Option ℕ) (n : ℕ) (r : Result Merge JoinFault) → floor_for old f.owner ≡ o → AnswersFloor o n f.generation r → Raised r
  by_floor None n (Ok Taken) e a = record { sound_after = sound_raised; joined = raised_joins (λ g h. no_some g (sym e ∙ h)) }
  by_floor None n (Ok Known) e a = absurd a
  by_floor None n (Ok Stale) e a = absurd a
  by_floor (Some g) n (Ok Taken) e a = record
      { sound_after = sound_raised; joined = raised_joins (λ k h. below_it g k (same_Some g k (sym e ∙ h)) a) }
  by_floor (Some g) n (Ok Known) e a = record { sound_after = sound; joined = at_most g e (let s : g ≡ f.generation = a in omega arith) }
  by_floor (Some g) n (Ok Stale) e a = record { sound_after = sound; joined = at_most g e (let s : f.generation < g = a in omega arith) }
  by_floor o n (Err fault) e a = record { sound_after = sound; joined = tt }

  pub raise_joins : (r : Result Merge JoinFault) → RaiseAnswer old f r → Raised r
  raise_joins r a = by_floor (floor_for old f.owner) (floor_count old) r refl a
