-- That what a map takes is what the definitions of deliveries say.
use Rattle.std.proofs.Common.{◌≡◌, ◌⊎◌, ℕ, ◌+◌, ◌≤◌, Bool, true, false, List, [], ◌∷◌, ◌++◌, length, filter, take, Option, Some, None, Ok}
use Rattle.std.proofs.Common.{Err, IsTrue, refl, ap, sym, ◌∙◌, subst, inl, inr, arith}
use Rattle.std.specs.List.{list_any, slice_get}
use Rattle.std.proofs.lemmas.List.{take_all}
use Rattle.ds_names.specs.declared.version.Version.{Version}
use Rattle.ds_entry.specs.Change.{ChangeRecord}
use Rattle.ds_entry.specs.declared.item.Item.{Item}
use Rattle.ds_entry.specs.declared.item.Item.TheVariants.{Change as Changed, Floor as Floored}
use Rattle.ds_join.specs.ItemTop.{IsTop}
use Rattle.ds_join.specs.declared.merge.Merge.{Merge}
use Rattle.ds_join.specs.declared.merge.Merge.TheVariants.{Taken, Known, Stale}
use Rattle.ds_join.specs.declared.merge.JoinFault.{JoinFault}
use Rattle.ds_join.specs.declared.merge.JoinFault.TheVariants.{NotOwner, Clash, Full, NoRoom}
use Rattle.ds_join.specs.declared.merge.Stop.{Stop}
use Rattle.ds_held.specs.Held.{Holding, held_for, held_items, held_count, floor_for, is_void_at, IsSound}
use Rattle.ds_held.specs.Merge.{UnlessVoid, AnswersNew, AnswersOwn, AnswersFor}
use Rattle.ds_held.specs.Raise.{AnswersFloor}
use Rattle.ds_held.specs.Join.{after_item, IsItemRefused}
use Rattle.ds_held.proofs.HeldLemmas.{change_in}
use Rattle.ds_pattern.specs.declared.query.Query.{Query}
use Rattle.ds_machine.specs.Stopped.{refusal_of_join}
use Rattle.ds_machine.specs.declared.refusal.Refusal.TheVariants as refusals
use Rattle.ds_join.specs.declared.count.Count.{Count}
use Rattle.ds_submap.specs.Map.{SubMapRecord}
use Rattle.ds_submap.specs.Take.{AreAnswered, is_taken, is_stale, AreCounted, IsNextRefused, IsTakeStopped, IsUnasked, needs_query}
use Rattle.ds_replica.specs.Delivery.{ended, StandsAgainst, MapTakes}
use Rattle.ds_world.specs.World.{map_state}
use Rattle.ds_pattern.specs.Under.{is_under}
use Rattle.ds_entry.specs.Item.{passes}
use Rattle.ds_entry.specs.Under.{under}

-- ---- why an item is refused
module _ (held : Holding) (sound : IsSound held) (c : ChangeRecord) where
  not_void : (void : Bool) (P : Type 0) (fault : JoinFault) → UnlessVoid void P (Err fault) → P
  not_void true P fault u = let e : Err fault ≡ Ok Stale = u in absurd (cc)
  not_void false P fault u = u

  of_owner : (o : Option ChangeRecord) → held_for held c.key ≡ o → (void : Bool) →
      AnswersFor o void (held_count held) held.limits.keys c (Err NotOwner) → StandsAgainst (held_items held) (Changed c) refusals.NotOwner
  of_owner None e void a = absurd (not_void void (AnswersNew (held_count held) held.limits.keys (Err NotOwner)) NotOwner a)
  of_owner (Some h) e void (inl other) = (h, change_in held c.key h e, sound.own c.key h e, other.0)
  of_owner (Some h) e void (inr own) = absurd (not_void void (AnswersOwn h c (Err NotOwner)) NotOwner own.1)

  of_clash : (v : Version) (o : Option ChangeRecord) → held_for held c.key ≡ o → (void : Bool) →
      AnswersFor o void (held_count held) held.limits.keys c (Err (Clash v)) →
      StandsAgainst (held_items held) (Changed c) (refusals.Clash v)
  of_clash v None e void a = absurd (not_void void (AnswersNew (held_count held) held.limits.keys (Err (Clash v))) (Clash v) a)
  of_clash v (Some h) e void (inl other) = let n : Err (Clash v) ≡ Err NotOwner = other.1 in absurd (cc)
  of_clash v (Some h) e void (inr own) =
      let n = not_void void (AnswersOwn h c (Err (Clash v))) (Clash v) own.1 in
      (h, change_in held c.key h e, sound.own c.key h e, n.0, n.1, n.2)

floor_not_owner : (o : Option ℕ) (count generation : ℕ) → AnswersFloor o count generation (Err NotOwner) → ⊥
floor_not_owner None count generation a = a
floor_not_owner (Some held) count generation a = a

floor_not_clash : (v : Version) (o : Option ℕ) (count generation : ℕ) → AnswersFloor o count generation (Err (Clash v)) → ⊥
floor_not_clash v None count generation a = a
floor_not_clash v (Some held) count generation a = a

-- a map's fault against an item applies to it
pub stands : (held : Holding) → IsSound held → (i : Item) (fault : JoinFault) → IsItemRefused held i fault →
    StandsAgainst (held_items held) i (refusal_of_join fault)
stands held sound (Changed c) NotOwner r = of_owner held sound c (held_for held c.key) refl (is_void_at held c) r
stands held sound (Changed c) (Clash v) r = of_clash held sound c v (held_for held c.key) refl (is_void_at held c) r
stands held sound (Changed c) Full r = tt
stands held sound (Changed c) NoRoom r = tt
stands held sound (Floored f) NotOwner r = floor_not_owner (floor_for held f.owner) _ f.generation r
stands held sound (Floored f) (Clash v) r = floor_not_clash v (floor_for held f.owner) _ f.generation r
stands held sound (Floored f) Full r = tt
stands held sound (Floored f) NoRoom r = tt

-- lack of memory applies to every item
wants_room : (held : List Item) (i : Item) → StandsAgainst held i refusals.NoRoom
wants_room held (Changed c) = tt
wants_room held (Floored f) = tt

-- ---- how many are counted
answers_few : (answers : List Merge) → length (filter is_taken answers) + length (filter is_stale answers) ≤ length answers
answers_few [] = omega arith
answers_few (Taken ∷ answers) = let l = answers_few answers in omega (arith, l)
answers_few (Known ∷ answers) = let l = answers_few answers in omega (arith, l)
answers_few (Stale ∷ answers) = let l = answers_few answers in omega (arith, l)

answered_each : (old : Holding) (items : List Item) (answers : List Merge) (new : Holding) → AreAnswered old items answers new →
    length answers ≡ length items
answered_each old [] [] new a = refl
answered_each old [] (r ∷ rs) new a = absurd a
answered_each old (i ∷ items) [] new a = absurd a
answered_each old (i ∷ items) (r ∷ rs) new a = let e = answered_each (after_item old i (Ok r)) items rs new a.1 in omega (arith, e)

under_few : (q : Query) (items : List Item) → length (under (is_under q) items) ≤ length items
under_few q [] = omega arith
under_few q (i ∷ items) = by_test (passes (is_under q) i) refl (under_few q items)
  where
    by_test : (b : Bool) → passes (is_under q) i ≡ b → length (under (is_under q) items) ≤ length items →
        length (under (is_under q) (i ∷ items)) ≤ length (i ∷ items)
    by_test true e rest = rw e (omega (arith, rest))
    by_test false e rest = rw e (omega (arith, rest))

-- ---- a take
module _ (old new : SubMapRecord) (items : List Item) (query : new.query ≡ old.query) where
  -- all items were done
  pub took : (count : Count) → IsTop (held_items new.held) (held_items old.held ++ under (is_under old.query) items) →
      AreCounted old.query old.held items new.held count
      → MapTakes (map_state old) items (record { count = count; owed = 0; stop = None }) (map_state new)
  took count top n =
      record {
        query = query;
        top = subst (λ (l : List Item). IsTop (held_items new.held) (held_items old.held ++ under (is_under old.query) l))
            (sym (take_all count.done items (omega (arith, n.done)))) top;
        counted =
            (let few = answers_few n.all.answers in
            let each = answered_each old.held (under (is_under old.query) items) n.all.answers new.held n.all.answered in
            let fewer = under_few old.query items in
            omega (arith, few, each, fewer, n.done, n.taken, n.stale));
        owed = refl;
        ends = n.done;
      }

  -- the take was stopped
  pub stopped : IsSound new.held → (stop : Stop) →
      IsTop (held_items new.held) (held_items old.held ++ under (is_under old.query) (take stop.done items)) →
      IsTakeStopped old.query old.held items new.held stop
      → MapTakes (map_state old) items (ended stop.done 0 (Some (refusal_of_join stop.fault))) (map_state new)
  stopped sound stop top n =
      record {
        query = query;
        top = top;
        counted = omega arith;
        owed = refl;
        ends = by n.refused;
      }
    where
      -- some item is the next one, even if none was done
      first_asked : (q : Query) (xs : List Item) → IsTrue (list_any (needs_query q) xs) → (i : Item) × (slice_get xs 0 ≡ Some i)
      first_asked q [] e = absurd (cc)
      first_asked q (i ∷ xs) e = (i, refl)

      by : IsNextRefused old.query items new.held stop ⊎ IsUnasked old.query items stop →
          (i : Item) × (slice_get items stop.done ≡ Some i) ×
          ((passes (is_under new.query) i ≡ true) ⊎ (refusal_of_join stop.fault ≡ refusals.NoRoom)) ×
          StandsAgainst (held_items new.held) i (refusal_of_join stop.fault)
      by (inl r) = (
        r.0,
        r.1,
        inl (subst (λ (q : Query). passes (is_under q) r.0 ≡ true) (sym query) r.2.0),
        stands new.held sound r.0 stop.fault
            r.2.1,
      )
      by (inr u) =
          let i = first_asked old.query items u.asked in (
            i.0,
            ap (slice_get items) u.none_done ∙ i.1,
            inr (ap refusal_of_join u.noroom),
            subst (λ (f : JoinFault). StandsAgainst (held_items new.held) i.0 (refusal_of_join f)) (sym u.noroom)
                (wants_room (held_items new.held) i.0),
          )
