-- The result of a take: the top of what was held and of the items under the query, in a map that keeps its floors.
use Rattle.std.proofs.Common.{◌≡◌, ◌++◌, List, [], ◌∷◌, All, Contains, IsTrue, take, Result, Ok, Err, refl, sym, ap, ◌∙◌, inl, inr}
use Rattle.std.proofs.lemmas.List.Elements.{All-contains, All-contains_itself, All-weaker, Contains-append_cases, Contains-append_left}
use Rattle.std.proofs.lemmas.List.Elements.{Contains-append_right}
use Rattle.std.proofs.lemmas.Option.{none-some}
use Rattle.std.specs.FinMap.{get-empty}
use Rattle.std.specs.Result.{IfErr, IfOk}
use Rattle.ds_names.specs.Key.{key_cmp}
use Rattle.ds_entry.specs.declared.item.Item.{Item}
use Rattle.ds_entry.specs.declared.item.Item.TheVariants.{Change as Changed, Floor as Floored}
use Rattle.ds_entry.proofs.Members.{Contains-filter, Contains-from_filter}
use Rattle.ds_entry.proofs.ItemLemmas.{covers-refl}
use Rattle.ds_join.specs.declared.merge.Merge.{Merge}
use Rattle.ds_join.specs.declared.merge.Merge.TheVariants.{Taken, Known, Stale}
use Rattle.ds_join.specs.declared.merge.Stop.{Stop}
use Rattle.ds_join.specs.ItemTop.{IsTop}
use Rattle.ds_join.proofs.ItemTopLemmas.{greatest_floor, void_isnt_held}
use Rattle.ds_held.specs.Held.{Holding, held_items, nothing_held, IsSound}
use Rattle.ds_held.specs.Join.{after_item, AreMerged}
use Rattle.ds_held.specs.Limits.{larger}
use Rattle.ds_held.proofs.HeldLemmas.{IsHeld, held_is_top, is_held}
use Rattle.ds_held.proofs.JoinLemmas.{all_join}
use Rattle.ds_held.proofs.KeptLemmas.{kept_nothing}
use Rattle.ds_pattern.specs.declared.query.Query.{Query}
use Rattle.ds_join.specs.declared.count.Count.{Count}
use Rattle.ds_submap.specs.Floors.{AreSwept, EachFloorStands}
use Rattle.ds_submap.specs.Map.{IsMap, empty_map, map_of}
use Rattle.ds_submap.specs.Take.{AreAnswered, AreCounted, IsTakeStopped, done_items}
use Rattle.ds_entry.specs.Under.{entries_of, under}
use Rattle.ds_entry.specs.Left.{is_put}
use Rattle.ds_pattern.specs.Under.{is_under}
use Rattle.ds_entry.specs.Item.{passes}

-- An item that isn't refused was merged, or raised.
merged_so : (old : Holding) (items : List Item) (rs : List Merge) (new : Holding) → AreAnswered old items rs new → AreMerged old items new
merged_so old [] [] new a = a
merged_so old [] (r ∷ rs) new a = absurd a
merged_so old (i ∷ items) [] new a = absurd a
merged_so old (i ∷ items) (r ∷ rs) new a = (r, a.0, merged_so (after_item old i (Ok r)) items rs new a.1)

-- The limits are unchanged.
same_limits : (old : Holding) (i : Item) (r : Merge) → (after_item old i (Ok r)).limits ≡ old.limits
same_limits old (Changed c) Taken = refl
same_limits old (Changed c) Known = refl
same_limits old (Changed c) Stale = refl
same_limits old (Floored f) Taken = refl
same_limits old (Floored f) Known = refl
same_limits old (Floored f) Stale = refl

limits_stay : (old : Holding) (items : List Item) (rs : List Merge) (new : Holding) → AreAnswered old items rs new → new.limits ≡ old.limits
limits_stay old [] [] new a = ap (λ (h : Holding). h.limits) a
limits_stay old [] (r ∷ rs) new a = absurd a
limits_stay old (i ∷ items) [] new a = absurd a
limits_stay old (i ∷ items) (r ∷ rs) new a = limits_stay (after_item old i (Ok r)) items rs new a.1 ∙ same_limits old i r

-- The empty map.
pub empty_is_map : (q : Query) → IsMap (empty_map q)
empty_is_map q = record {
  limits = refl;
  sound = sound;
  under = All-weaker (Contains (held_items (nothing_held larger))) (λ i. IsTrue (passes (is_under q) i))
      (λ i k. none i (is_held (nothing_held larger) sound i k)) (held_items (nothing_held larger))
      (All-contains_itself (held_items (nothing_held larger)));
}
  where
    sound : IsSound (nothing_held larger)
    sound = (kept_nothing larger).sound

    none : (i : Item) → IsHeld (nothing_held larger) i → IsTrue (passes (is_under q) i)
    none (Changed c) h = absurd (none-some c (sym (get-empty key_cmp c.key) ∙ h))
    none (Floored f) h = refl

-- A held floor voids no put.
pub entries_swept : (h : Holding) → IsSound h → AreSwept (held_items h) (entries_of (held_items h))
entries_swept h sound f k c m = void_isnt_held (held_items h) (held_items h) f c top k
    (Contains-from_filter is_put (held_items h) (Changed c) m).0
  where
    top : IsTop (held_items h) (held_items h)
    top = held_is_top h sound (held_items h) (λ i k. k) (λ i k. (i, k, covers-refl i))

module _ (q : Query) (old : Holding) (items : List Item) (new : Holding) where
  -- what was taken
  pub record TookAll (result : Result Count Stop) : Type 0 where
    pub joined : IsTop (held_items new) (held_items old ++ under (is_under q) (done_items result items))
    pub limits : new.limits ≡ old.limits

  took : IsSound old → (result : Result Count Stop) → IfOk result (AreCounted q old items new) →
      IfErr result (IsTakeStopped q old items new) → TookAll result
  took sound (Ok n) t s = record {
    joined = all_join old (under (is_under q) items) new sound (merged_so old (under (is_under q) items) t.all.answers new t.all.answered);
    limits = limits_stay old (under (is_under q) items) t.all.answers new t.all.answered;
  }
  took sound (Err stop) t s = record {
    joined = all_join old (under (is_under q) (take stop.done items)) new sound
        (merged_so old (under (is_under q) (take stop.done items)) s.front.answers new s.front.answered);
    limits = limits_stay old (under (is_under q) (take stop.done items)) s.front.answers new s.front.answered;
  }

  -- Floors are kept, whether they were held or arrived.
  floors_stand : (came : List Item) → IsTop (held_items new) (held_items old ++ under (is_under q) came) →
      EachFloorStands (held_items old ++ came) (held_items new)
  floors_stand came top f k =
      record {
        kept = greatest_floor (held_items old ++ under (is_under q) came) (held_items new) f top among;
        dropped = λ c m. void_isnt_held (held_items old ++ under (is_under q) came) (held_items new) f c top among m;
      }
    where
      among : Contains (held_items old ++ under (is_under q) came) (Floored f)
      among = elim (Contains-append_cases (held_items old) came (Floored f) k) [
        | inl h ↦ Contains-append_left (held_items old) (under (is_under q) came) (Floored f) h
        | inr h ↦ Contains-append_right (held_items old) (under (is_under q) came) (Floored f)
            (Contains-filter (passes (is_under q)) came (Floored f) h refl)
      ]

  -- what is held after a take is under the query
  still_under : (came : List Item) → All (λ i. IsTrue (passes (is_under q) i)) (held_items old) →
      IsTop (held_items new) (held_items old ++ under (is_under q) came) → All (λ i. IsTrue (passes (is_under q) i)) (held_items new)
  still_under came before top = All-weaker (Contains (held_items new)) (λ i. IsTrue (passes (is_under q) i)) each (held_items new)
      (All-contains_itself (held_items new))
    where
      each : (i : Item) → Contains (held_items new) i → IsTrue (passes (is_under q) i)
      each i k = elim (Contains-append_cases (held_items old) (under (is_under q) came) i (top.among i k)) [
        | inl h ↦ All-contains (λ j. IsTrue (passes (is_under q) j)) (held_items old) i before h
        | inr h ↦ (Contains-from_filter (passes (is_under q)) came i h).1
      ]

  -- what a take says of the map
  pub record Took (result : Result Count Stop) : Type 0 where
    pub joined : IsTop (held_items new) (held_items old ++ under (is_under q) (done_items result items))
    pub floors : EachFloorStands (held_items old ++ done_items result items) (held_items new)
    pub map : IsMap (map_of q new)

  pub take_leaves : (result : Result Count Stop) → IsMap (map_of q old) → IsSound new → IfOk result (AreCounted q old items new) →
      IfErr result (IsTakeStopped q old items new) → Took result
  take_leaves result map sound t s =
      let all = took map.sound result t s in
      record {
        joined = all.joined;
        floors = floors_stand (done_items result items) all.joined;
        map =
            record { limits = all.limits ∙ map.limits; sound = sound; under = still_under (done_items result items) map.under all.joined };
      }
