-- The holding of a holder's lists, and what a merge and a raised floor leave of them.
use Rattle.std.proofs.Common.{◌≡◌, ℕ, zero, suc, ◌<◌, ◌≤◌, List, [], ◌∷◌, ◌++◌, length, get_or, map, take, drop, Bool, true, false, Some}
use Rattle.std.proofs.Common.{None, Result, Ok, Err, refl, sym, ap, ◌∙◌, subst, arith, length-set, All}
use Rattle.std.proofs.lemmas.Option.{slice_get-get_or, none-some, slice_get_within, get_or_from_slice_get}
use Rattle.std.proofs.lemmas.Cmp.{nat_list_cmp_total}
use Rattle.std.proofs.lemmas.Map.Lookups.{exact_bytes}
use Rattle.std.proofs.lemmas.List.Edits.{length-insert}
use Rattle.std.proofs.lemmas.List.Elements.{All-set, All-append, All-take, All-drop, All-head, All-tail, All-cons, All-nil, All-filter}
use Rattle.std.specs.List.{slice_get}
use Rattle.std.specs.FinMap.{get, get-empty, len}
use Rattle.std.specs.declared.cmp.Ordering.TheVariants.{Equal}
use Rattle.std.specs.Option.{IfSome}
use Rattle.std.specs.Result.{OnOk}
use Rattle.ds_names.specs.declared.key.Key.{Key}
use Rattle.ds_names.specs.Key.{name_cmp, key_cmp}
use Rattle.ds_names.proofs.OrderLemmas.{keys_total, exact_keys}
use Rattle.ds_entry.specs.Change.{ChangeRecord, IsChange}
use Rattle.ds_entry.specs.declared.floor.Floor.{Floor}
use Rattle.ds_entry.specs.declared.item.Item.TheVariants.{Change as Changed, Floor as Floored}
use Rattle.ds_join.specs.ItemTop.{IsTop}
use Rattle.ds_join.specs.declared.merge.Merge.{Merge}
use Rattle.ds_join.specs.declared.merge.Merge.TheVariants.{Taken, Known, Stale}
use Rattle.ds_join.specs.declared.merge.JoinFault.{JoinFault}
use Rattle.ds_join.specs.declared.merge.JoinFault.TheVariants.{NoRoom}
use Rattle.ds_held.specs.Limits.{LimitsRecord}
use Rattle.ds_held.specs.Held.{Holding, held_changes, held_items, held_for, held_count, floor_count, floor_item, change_item, is_void_at}
use Rattle.ds_held.specs.Held.{IsSound}
use Rattle.ds_held.specs.Merge.{AnswersNew, AnswersHeld, AnswersFor, UnlessVoid, MergeAnswer, after_merge}
use Rattle.ds_held.specs.Raise.{AnswersFloor, RaiseAnswer, after_raise}
use Rattle.ds_held.specs.Kept.{floored, owned, keyed, by_owner, by_key, floors_map, changes_map, holding_of, AreOwnersRising, AreKeysRising}
use Rattle.ds_held.specs.Kept.{AreKept, IsPlace, IsFloorPlace, put_at, list_after, left_by_floor}
use Rattle.ds_held.proofs.EntryLemmas.{map_twice}
use Rattle.ds_held.proofs.PlaceLemmas.{entries_are, count, get_there, get_none, still_rising, map_with, rising_filter}
use Rattle.ds_held.proofs.LeftLemmas.{changes_are_left, few_left}
use Rattle.ds_held.proofs.MergeLemmas.{merge_joins}
use Rattle.ds_held.proofs.RaiseLemmas.{raise_joins}

-- What is at the place of a key is found under it.
pub change_there : (xs : List ChangeRecord) (key : Key) (i : ℕ) → AreKeysRising xs → IsPlace xs key (Ok i) →
    get (changes_map xs) key ≡ slice_get xs i
change_there [] key i s p = absurd (omega (arith, p.0))
change_there (x ∷ xs) key i s p = get_there key_cmp keys_total exact_keys keyed (x ∷ xs) key i x s p ∙
    sym (slice_get-get_or (x ∷ xs) i x p.0)

pub change_none : (xs : List ChangeRecord) (key : Key) (i : ℕ) → IsPlace xs key (Err i) → get (changes_map xs) key ≡ None
change_none xs key i p = get_none key_cmp keys_total exact_keys keyed xs key i p

-- ---- all that is held
own_values : (xs : List ChangeRecord) → map (λ (e : Key × ChangeRecord). e.1) (by_key xs) ≡ xs
own_values [] = refl
own_values (x ∷ xs) = ap (λ l. x ∷ l) (own_values xs)

pub changes_are : (fs : List Floor) (xs : List ChangeRecord) (lim : LimitsRecord) → AreKeysRising xs →
    held_changes (holding_of fs xs lim) ≡ xs
changes_are fs xs lim s = ap (λ es. map (λ (e : Key × ChangeRecord). e.1) es) (entries_are key_cmp keys_total exact_keys keyed xs s) ∙
    own_values xs

own_floors : (fs : List Floor) → map floor_item (by_owner fs) ≡ map floored fs
own_floors fs = map_twice floor_item owned fs

pub items_are : (fs : List Floor) (xs : List ChangeRecord) (lim : LimitsRecord) → AreOwnersRising fs → AreKeysRising xs →
    held_items (holding_of fs xs lim) ≡ map floored fs ++ map change_item xs
items_are fs xs lim r s =
    ap (λ es. map floor_item es ++ map change_item (held_changes (holding_of fs xs lim)))
    (entries_are name_cmp nat_list_cmp_total exact_bytes owned fs r)
    ∙ ap (λ l. l ++ map change_item (held_changes (holding_of fs xs lim))) (own_floors fs)
    ∙ ap (λ l. map floored fs ++ map change_item l) (changes_are fs xs lim s)

pub count_changes : (xs : List ChangeRecord) → AreKeysRising xs → len (changes_map xs) ≡ length xs
count_changes xs s = count key_cmp keys_total exact_keys keyed xs s

pub count_floors : (fs : List Floor) → AreOwnersRising fs → len (floors_map fs) ≡ length fs
count_floors fs s = count name_cmp nat_list_cmp_total exact_bytes owned fs s

pub kept_nothing : (lim : LimitsRecord) → AreKept [] [] lim
kept_nothing lim = record {
  owners = tt;
  keys = tt;
  few_floors = omega arith;
  few = omega arith;
  valid = All-nil IsChange;
  sound =
      record {
        own = λ q d h. absurd (none-some d (sym (get-empty key_cmp q) ∙ h));
        none_void = λ q d h.
            absurd (none-some d (sym (get-empty key_cmp q) ∙ h));
      };
}

-- A change of the key that is in the list is what is held for the key.
pub listed_there : (xs : List ChangeRecord) (key : Key) (k : ℕ) (c : ChangeRecord) → AreKeysRising xs → slice_get xs k ≡ Some c →
    key_cmp c.key key ≡ Equal → Some c ≡ get (changes_map xs) key
listed_there xs key k c s h e =
    sym h ∙
    sym (change_there xs key k s
    (slice_get_within xs k c h, λ d. subst (λ (x : ChangeRecord). key_cmp x.key key ≡ Equal) (sym (get_or_from_slice_get xs k c d h)) e))

-- The element at an index of changes is a change.
pub valid_at : (xs : List ChangeRecord) (i : ℕ) → All IsChange xs → IfSome (slice_get xs i) IsChange
valid_at [] i valid = tt
valid_at (x ∷ xs) zero valid = All-head IsChange x xs valid
valid_at (x ∷ xs) (suc i) valid = valid_at xs i (All-tail IsChange x xs valid)

valid_with : (xs : List ChangeRecord) (c : ChangeRecord) (place : Result ℕ ℕ) → IsChange c → All IsChange xs →
    All IsChange (put_at xs place c)
valid_with xs c (Ok i) v a = All-set IsChange xs i c v a
valid_with xs c (Err i) v a = All-append IsChange (take i xs) (c ∷ drop i xs) (All-take IsChange i xs a)
    (All-cons IsChange c (drop i xs) v (All-drop IsChange i xs a))

pub valid_changes : (fs : List Floor) (xs : List ChangeRecord) (lim : LimitsRecord) → AreKept fs xs lim →
    All IsChange (held_changes (holding_of fs xs lim))
valid_changes fs xs lim kept = subst (All IsChange) (sym (changes_are fs xs lim kept.keys)) kept.valid

-- ---- what isn't refused leaves the join
pub merged_joins : (old new : Holding) (c : ChangeRecord) (r : Result Merge JoinFault) → IsSound old → MergeAnswer old c r →
    new ≡ after_merge old c r → OnOk r (IsTop (held_items new) (held_items old ++ Changed c ∷ []))
merged_joins old new c r sound a e = subst (λ (h : Holding). OnOk r (IsTop (held_items h) (held_items old ++ Changed c ∷ []))) (sym e)
    (merge_joins old sound c r a).joined

pub raised_joins : (old new : Holding) (f : Floor) (r : Result Merge JoinFault) → IsSound old → RaiseAnswer old f r →
    new ≡ after_raise old f r → OnOk r (IsTop (held_items new) (held_items old ++ Floored f ∷ []))
raised_joins old new f r sound a e = subst (λ (h : Holding). OnOk r (IsTop (held_items h) (held_items old ++ Floored f ∷ []))) (sym e)
    (raise_joins old sound f r a).joined

-- ---- a merge
one_more : (void : Bool) (n m : ℕ) (c : ChangeRecord) → AnswersFor None void n m c (Ok Taken) → n < m
one_more true n m c a = absurd (cc)
one_more false n m c a = a

none_more : (void : Bool) (n m : ℕ) (c : ChangeRecord) → AnswersFor None void n m c (Ok Taken) → AnswersFor None void n m c (Err NoRoom)
none_more true n m c a = absurd (cc)
none_more false n m c a = a

-- Memory may run out for a change that is to be taken and whose key isn't held.
pub wants_room : (old : Holding) (c : ChangeRecord) → held_for old c.key ≡ None → MergeAnswer old c (Ok Taken) →
    MergeAnswer old c (Err NoRoom)
wants_room old c none a =
    subst (λ o. AnswersFor o (is_void_at old c) (held_count old) old.limits.keys c (Err NoRoom)) (sym none)
    (none_more (is_void_at old c) (held_count old) old.limits.keys c
    (subst (λ o. AnswersFor o (is_void_at old c) (held_count old) old.limits.keys c (Ok Taken)) none a))

module _ (fs : List Floor) (xs : List ChangeRecord) (lim : LimitsRecord) (kept : AreKept fs xs lim) (c : ChangeRecord) where
  abbrev old : Holding
  old = holding_of fs xs lim

  -- where its key is held
  pub held_answer : (i : ℕ) (d : ChangeRecord) (void : Bool) (r : Result Merge JoinFault) → IsPlace xs c.key (Ok i) →
      void ≡ is_void_at old c → AnswersHeld (get_or xs i d) void c r → MergeAnswer old c r
  held_answer i d void r p v a =
      subst (λ o. AnswersFor o (is_void_at old c) (held_count old) lim.keys c r)
      (sym (get_there key_cmp keys_total exact_keys keyed xs c.key i d kept.keys p))
      (subst (λ b. AnswersHeld (get_or xs i d) b c r) v a)

  -- and where it isn't
  pub new_answer : (i : ℕ) (n : ℕ) (void : Bool) (r : Result Merge JoinFault) → IsPlace xs c.key (Err i) → n ≡ length xs →
      void ≡ is_void_at old c → UnlessVoid void (AnswersNew n lim.keys r) r → MergeAnswer old c r
  new_answer i n void r p e v a =
      subst (λ o. AnswersFor o (is_void_at old c) (held_count old) lim.keys c r) (sym (change_none xs c.key i p))
      (subst (λ k. UnlessVoid (is_void_at old c) (AnswersNew k lim.keys r) r) (e ∙ sym (count_changes xs kept.keys))
      (subst (λ b. UnlessVoid b (AnswersNew n lim.keys r) r) v a))

  module _ (valid : IsChange c) (place : Result ℕ ℕ) (p : IsPlace xs c.key place) where
    pub merged_after : (r : Result Merge JoinFault) → holding_of fs (list_after xs (put_at xs place c) r) lim ≡ after_merge old c r
    merged_after (Ok Taken) = let m = map_with key_cmp keys_total exact_keys keyed xs c place kept.keys p in λ i.
        record { floors = floors_map fs; changes = m i; limits = lim }
    merged_after (Ok Known) = refl
    merged_after (Ok Stale) = refl
    merged_after (Err fault) = refl

    few_with : (q : Result ℕ ℕ) → IsPlace xs c.key q → MergeAnswer old c (Ok Taken) → length (put_at xs q c) ≤ lim.keys
    few_with (Ok i) h a = omega (arith, length-set xs i c, kept.few)
    few_with (Err i) h a =
        let more : held_count old < lim.keys = one_more (is_void_at old c) (held_count old) lim.keys c
        (subst (λ o. AnswersFor o (is_void_at old c) (held_count old) lim.keys c (Ok Taken)) (change_none xs c.key i h) a) in
        omega (arith, length-insert xs i c h.0, count_changes xs kept.keys, more)

    pub merged_kept : (r : Result Merge JoinFault) → MergeAnswer old c r → AreKept fs (list_after xs (put_at xs place c) r) lim
    merged_kept (Ok Taken) a = record {
      owners = kept.owners;
      keys = still_rising key_cmp keys_total exact_keys keyed xs c place kept.keys p;
      few_floors = kept.few_floors;
      few = few_with place p a;
      valid = valid_with xs c place valid kept.valid;
      sound = subst IsSound (sym (merged_after (Ok Taken))) (merge_joins old kept.sound c (Ok Taken) a).sound_after;
    }
    merged_kept (Ok Known) a = kept
    merged_kept (Ok Stale) a = kept
    merged_kept (Err fault) a = kept

-- ---- a floor
few_more : (fs : List Floor) (f : Floor) (place : Result ℕ ℕ) (n : ℕ) → length fs ≤ 64 → IsFloorPlace fs f.owner place →
    (get (floors_map fs) f.owner ≡ None → n < 64) → n ≡ length fs → length (put_at fs place f) ≤ 64
few_more fs f (Ok i) n few p m e = omega (arith, length-set fs i f, few)
few_more fs f (Err i) n few p m e =
    let more : n < 64 = m (get_none name_cmp nat_list_cmp_total exact_bytes owned fs f.owner i p) in
    omega (arith, length-insert fs i f p.0, more, e)

module _ (fs : List Floor) (xs : List ChangeRecord) (lim : LimitsRecord) (kept : AreKept fs xs lim) (f : Floor) where
  module _ (place : Result ℕ ℕ) (p : IsFloorPlace fs f.owner place) where
    pub raised_after : (r : Result Merge JoinFault) →
        holding_of (list_after fs (put_at fs place f) r) (list_after xs (left_by_floor f xs) r) lim ≡ after_raise (holding_of fs xs lim) f r
    raised_after (Ok Taken) =
        let m = map_with name_cmp nat_list_cmp_total exact_bytes owned fs f place kept.owners p in
        let l = changes_are_left f xs kept.keys in
        λ i. record { floors = m i; changes = l i; limits = lim }
    raised_after (Ok Known) = refl
    raised_after (Ok Stale) = refl
    raised_after (Err fault) = refl

    pub raised_kept : (r : Result Merge JoinFault) → RaiseAnswer (holding_of fs xs lim) f r →
        AreKept (list_after fs (put_at fs place f) r) (list_after xs (left_by_floor f xs) r) lim
    raised_kept (Ok Taken) a = record {
      owners = still_rising name_cmp nat_list_cmp_total exact_bytes owned fs f place kept.owners p;
      keys = rising_filter key_cmp keys_total exact_keys keyed _ xs kept.keys;
      few_floors = few_more fs f place (floor_count (holding_of fs xs lim)) kept.few_floors p
          (λ none. subst (λ o. AnswersFloor o (floor_count (holding_of fs xs lim)) f.generation (Ok Taken)) none a)
          (count_floors fs kept.owners);
      few = omega (arith, few_left f xs, kept.few);
      valid = All-filter _ IsChange xs kept.valid;
      sound = subst IsSound (sym (raised_after (Ok Taken))) (raise_joins (holding_of fs xs lim) kept.sound f (Ok Taken) a).sound_after;
    }
    raised_kept (Ok Known) a = kept
    raised_kept (Ok Stale) a = kept
    raised_kept (Err fault) a = kept
