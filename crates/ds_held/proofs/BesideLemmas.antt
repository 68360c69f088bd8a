-- The holding after a change or a floor was judged to be taken and put at the place found for it.
use Rattle.std.proofs.Common.{◌≡◌, ℕ, List, [], ◌∷◌, ◌++◌, length, get_or, Bool, None, Result, Ok, Err, sym, ap, ◌∙◌, subst}
use Rattle.std.proofs.lemmas.Cmp.{nat_list_cmp_total}
use Rattle.std.proofs.lemmas.Map.Lookups.{exact_bytes}
use Rattle.std.specs.declared.cmp.Ordering.{Ordering}
use Rattle.std.specs.Result.{OnOk, OnErr}
use Rattle.ds_names.specs.Key.{name_cmp, key_cmp}
use Rattle.ds_entry.specs.Change.{ChangeRecord, IsChange}
use Rattle.ds_entry.specs.declared.floor.Floor.{Floor}
use Rattle.ds_entry.specs.declared.item.Item.TheVariants.{Floor as Floored}
use Rattle.ds_join.specs.ItemTop.{IsTop}
use Rattle.ds_join.specs.declared.merge.Merge.{Merge}
use Rattle.ds_join.specs.declared.merge.Merge.TheVariants.{Taken}
use Rattle.ds_join.specs.declared.merge.JoinFault.{JoinFault}
use Rattle.ds_held.specs.Limits.{LimitsRecord}
use Rattle.ds_held.specs.Held.{Holding, held_changes, held_items, held_floors, held_for, floor_for, is_void_at}
use Rattle.ds_held.specs.Merge.{AnswersHeld, AnswersNew, UnlessVoid, MergeAnswer, after_merge}
use Rattle.ds_held.specs.Raise.{RaiseAnswer, after_raise}
use Rattle.ds_held.specs.Kept.{owned, holding_of, left_by_floor, put_at, AreKept, IsPlaceOf, IsPlace, IsFloorPlace, IsGap, IsPlaceIn}
use Rattle.ds_held.proofs.PlaceLemmas.{get_none}
use Rattle.ds_held.proofs.FloorLemmas.{floors_are}
use Rattle.ds_held.proofs.KeptLemmas.{changes_are, change_none, held_answer, new_answer, merged_after, merged_kept, raised_after}
use Rattle.ds_held.proofs.KeptLemmas.{raised_kept, raised_joins}

-- A place that was found is one of the list.
place_within : {K X : Type 0} (R : K → K → Ordering) (key : X → K) (xs : List X) (sought : K) (place : Result ℕ ℕ) →
    IsPlaceOf R key xs sought place → IsPlaceIn place (length xs)
place_within R key xs sought (Ok i) p = p.0
place_within R key xs sought (Err i) p = p.0

module _ (fs : List Floor) (xs : List ChangeRecord) (lim : LimitsRecord) (kept : AreKept fs xs lim) where
  abbrev held : Holding
  held = holding_of fs xs lim

  -- What a change leaves at its place, or that memory runs out for it.
  pub record IsPutIn {U E : Type 0} (h : Holding) (c : ChangeRecord) (place : Result ℕ ℕ) (r : Result U E) (ys : List ChangeRecord) : Type
      0 where
    pub still : AreKept fs ys lim
    pub after : OnOk r (holding_of fs ys lim ≡ after_merge h c (Ok Taken))
    pub list : OnOk r (held_changes (holding_of fs ys lim) ≡ put_at (held_changes h) place c)
    pub same : OnErr r (holding_of fs ys lim ≡ h)
    pub new : OnErr r (held_for h c.key ≡ None)

  pub change_place : (h : Holding) → held ≡ h → (c : ChangeRecord) (place : Result ℕ ℕ) → IsPlace (held_changes h) c.key place →
      IsPlace xs c.key place
  change_place h is c place p = subst (λ l. IsPlace l c.key place) (ap held_changes (sym is) ∙ changes_are fs xs lim kept.keys) p

  pub change_within : (h : Holding) → held ≡ h → (c : ChangeRecord) (place : Result ℕ ℕ) → IsPlace (held_changes h) c.key place →
      IsPlaceIn place (length xs)
  change_within h is c place p = place_within key_cmp (λ (x : ChangeRecord). x.key) xs c.key place (change_place h is c place p)

  put_facts : {U E : Type 0} (c : ChangeRecord) → IsChange c → (place : Result ℕ ℕ) → IsPlace xs c.key place → MergeAnswer held c (Ok Taken)
      → (r : Result U E) (ys : List ChangeRecord) → OnOk r (ys ≡ put_at xs place c) → OnErr r (ys ≡ xs) → OnErr r (IsGap place) →
      IsPutIn held c place r ys
  put_facts c valid place p a (Ok u) ys ok err gap =
      let still = subst (λ l. AreKept fs l lim) (sym ok) (merged_kept fs xs lim kept c valid place p (Ok Taken) a) in record {
        still = still;
        after = ap (λ l. holding_of fs l lim) ok ∙ merged_after fs xs lim kept c valid place p (Ok Taken);
        list = changes_are fs ys lim still.keys ∙ ok ∙ ap (λ l. put_at l place c) (sym (changes_are fs xs lim kept.keys));
        same = tt;
        new = tt;
      }
  put_facts c valid place p a (Err e) ys ok err gap = record {
    still = subst (λ l. AreKept fs l lim) (sym err) kept;
    after = tt;
    list = tt;
    same = ap (λ l. holding_of fs l lim) err;
    new = by_place place p gap;
  }
    where
      by_place : (q : Result ℕ ℕ) → IsPlace xs c.key q → IsGap q → held_for held c.key ≡ None
      by_place (Ok i) q gap = absurd gap
      by_place (Err i) q gap = change_none xs c.key i q

  pub put_in : {U E : Type 0} (h : Holding) → held ≡ h → (c : ChangeRecord) → IsChange c → (place : Result ℕ ℕ) →
      IsPlace (held_changes h) c.key place → MergeAnswer h c (Ok Taken)
      → (r : Result U E) (ys : List ChangeRecord) → OnOk r (ys ≡ put_at xs place c) → OnErr r (ys ≡ xs) → OnErr r (IsGap place) →
      IsPutIn h c place r ys
  put_in h is c valid place p a r ys ok err gap =
      subst (λ g. IsPutIn g c place r ys) is
      (put_facts c valid place (change_place h is c place p) (subst (λ g. MergeAnswer g c (Ok Taken)) (sym is) a) r ys ok err gap)

  -- the answer to a change at the place that was found for its key, where one is held for it, and where none is
  pub answer_in_place : (h : Holding) → held ≡ h → (c : ChangeRecord) (i : ℕ) (d : ChangeRecord) (void : Bool) (r : Result Merge JoinFault)
      → IsPlace (held_changes h) c.key (Ok i) → void ≡ is_void_at h c → AnswersHeld (get_or xs i d) void c r → MergeAnswer h c r
  answer_in_place h is c i d void r p v a =
      subst (λ g. MergeAnswer g c r) is (held_answer fs xs lim kept c i d void r (change_place h is c (Ok i) p)
      (v ∙ ap (λ g. is_void_at g c) (sym is)) a)

  pub answer_in_gap : (h : Holding) → held ≡ h → (c : ChangeRecord) (i n : ℕ) (void : Bool) (r : Result Merge JoinFault)
      → IsPlace (held_changes h) c.key (Err i) → n ≡ length xs → void ≡ is_void_at h c → UnlessVoid void (AnswersNew n lim.keys r) r →
      MergeAnswer h c r
  answer_in_gap h is c i n void r p e v a =
      subst (λ g. MergeAnswer g c r) is (new_answer fs xs lim kept c i n void r (change_place h is c (Err i) p) e
      (v ∙ ap (λ g. is_void_at g c) (sym is)) a)

  -- what a floor leaves
  pub record IsRaisedIn (h : Holding) (f : Floor) (gs : List Floor) (ys : List ChangeRecord) : Type 0 where
    pub still : AreKept gs ys lim
    pub after : holding_of gs ys lim ≡ after_raise h f (Ok Taken)
    pub list : held_changes (holding_of gs ys lim) ≡ left_by_floor f (held_changes h)
    pub joined : IsTop (held_items (holding_of gs ys lim)) (held_items h ++ Floored f ∷ [])

  raise_facts : (f : Floor) (place : Result ℕ ℕ) → IsFloorPlace fs f.owner place → RaiseAnswer held f (Ok Taken) →
      (gs : List Floor) (ys : List ChangeRecord) → gs ≡ put_at fs place f → ys ≡ left_by_floor f xs → IsRaisedIn held f gs ys
  raise_facts f place p a gs ys floors changes =
      let still = subst (λ l. AreKept l ys lim) (sym floors)
      (subst (λ l. AreKept (put_at fs place f) l lim) (sym changes) (raised_kept fs xs lim kept f place p (Ok Taken) a)) in
      let after : holding_of gs ys lim ≡ after_raise held f (Ok Taken) =
      ap (λ l. holding_of l ys lim) floors ∙ ap (λ l. holding_of (put_at fs place f) l lim) changes ∙
      raised_after fs xs lim kept f place p (Ok Taken) in record {
        still = still;
        after = after;
        list = changes_are gs ys lim still.keys ∙ changes ∙ ap (left_by_floor f) (sym (changes_are fs xs lim kept.keys));
        joined = raised_joins held (holding_of gs ys lim) f (Ok Taken) kept.sound a after;
      }

  module _ (h : Holding) (is : held ≡ h) where
    pub list_is : held_changes h ≡ xs
    list_is = ap held_changes (sym is) ∙ changes_are fs xs lim kept.keys

    floor_place : (owner : List ℕ) (place : Result ℕ ℕ) → IsFloorPlace (held_floors h) owner place → IsFloorPlace fs owner place
    floor_place owner place p = subst (λ l. IsFloorPlace l owner place) (ap held_floors (sym is) ∙ floors_are fs xs lim kept.owners) p

    pub floor_within : (owner : List ℕ) (place : Result ℕ ℕ) → IsFloorPlace (held_floors h) owner place → IsPlaceIn place (length fs)
    floor_within owner place p = place_within name_cmp (λ (f : Floor). f.owner) fs owner place (floor_place owner place p)

    -- an owner whose place is one more has no floor
    pub no_floor : (owner : List ℕ) (place : Result ℕ ℕ) → IsFloorPlace (held_floors h) owner place → IsGap place → floor_for h owner ≡ None
    no_floor owner (Ok i) p gap = absurd gap
    no_floor owner (Err i) p gap = ap (λ g. floor_for g owner) (sym is) ∙
        get_none name_cmp nat_list_cmp_total exact_bytes owned fs owner i (floor_place owner (Err i) p)

    pub raised_over : (f : Floor) (place : Result ℕ ℕ) → IsFloorPlace fs f.owner place → RaiseAnswer held f (Ok Taken) →
        (gs : List Floor) (ys : List ChangeRecord) → gs ≡ put_at fs place f → ys ≡ left_by_floor f xs → IsRaisedIn h f gs ys
    raised_over f place p a gs ys floors changes = subst (λ g. IsRaisedIn g f gs ys) is (raise_facts f place p a gs ys floors changes)

    pub raised_in : (f : Floor) (place : Result ℕ ℕ) → IsFloorPlace (held_floors h) f.owner place → RaiseAnswer h f (Ok Taken) →
        (gs : List Floor) (ys : List ChangeRecord) →
        gs ≡ put_at fs place f → ys ≡ left_by_floor f xs → IsRaisedIn h f gs ys
    raised_in f place p a gs ys floors changes =
        raised_over f place (floor_place f.owner place p) (subst (λ g. RaiseAnswer g f (Ok Taken)) (sym is) a) gs ys floors changes
