-- The held floors as a list, and marks beside them.
use Rattle.std.proofs.Common.{◌≡◌, ℕ, ◌<◌, ◌≤◌, List, [], length, get_or, set, map, Option, Some, None, is_some, Result, Ok, Err, refl, sym}
use Rattle.std.proofs.Common.{ap, ◌∙◌, subst, arith, length-set}
use Rattle.std.proofs.lemmas.Cmp.{nat_list_cmp_total}
use Rattle.std.proofs.lemmas.Map.Lookups.{exact_bytes}
use Rattle.std.specs.List.{slice_get}
use Rattle.std.specs.Option.{option_map, IfSome}
use Rattle.std.specs.Result.{MatchResult}
use Rattle.std.specs.Prelude.{⊤}
use Rattle.std.specs.FinMap.{FinMap, find, get, put, get-from_entries, get-entries, entries, entries_sorted, entries-insert, same_map}
use Rattle.std.specs.FinMap.{is_sorted}
use Rattle.std.specs.FinMap as finite
use lib.Dec.{T}
use Rattle.ds_names.specs.Key.{name_cmp}
use Rattle.ds_entry.specs.declared.floor.Floor.{Floor}
use Rattle.ds_join.specs.declared.merge.Merge.TheVariants.{Taken}
use Rattle.ds_held.specs.Limits.{LimitsRecord}
use Rattle.ds_held.specs.Held.{Holding, held_changes, held_floors, floor_for, nothing_held}
use Rattle.ds_held.specs.Raise.{after_raise}
use Rattle.ds_held.specs.Kept.{owned, by_owner, floors_map, AreOwnersRising, IsFloorPlace, IsGap, put_at}
use Rattle.ds_held.proofs.PlaceLemmas.{put_there, get_there, get_none}
use Rattle.ds_held.proofs.FloorLemmas.{floor_from, owned_back, floors_back, floors_are}
use Rattle.ds_index.specs.Marked.{MarkedHolding, nothing_marked, floor_remarked}
use Rattle.ds_index.specs.Beside.{marks_beside, marked_owners, marks_beside_floors, IsBesideFloors}
use Rattle.ds_index.proofs.RowMarkLemmas.{place_from_get, find_mark, marked_too, marks_put, each_put, marks_at, marks_past}
use Rattle.ds_index.proofs.MarkLemmas.{marks_nothing}

-- ---- the held floors, as a list
module _ (h : Holding) where
  own_floors : by_owner (held_floors h) ≡ entries h.floors
  own_floors = owned_back (entries h.floors)

  pub rising_floors : AreOwnersRising (held_floors h)
  rising_floors = subst (λ es. T (is_sorted name_cmp es)) (sym own_floors) (entries_sorted h.floors)

  floors_held : floors_map (held_floors h) ≡ h.floors
  floors_held = same_map nat_list_cmp_total exact_bytes _ _
      (λ q. get-from_entries nat_list_cmp_total (by_owner (held_floors h)) q ∙ ap (find name_cmp q) own_floors ∙
      sym (get-entries h.floors q))

  pub floor_found : (owner : List ℕ) (i : ℕ) (d : Floor) → IsFloorPlace (held_floors h) owner (Ok i) →
      floor_for h owner ≡ Some (get_or (held_floors h) i d).generation
  floor_found owner i d p = ap (λ (m : FinMap name_cmp ℕ). get m owner) (sym floors_held) ∙
      get_there name_cmp nat_list_cmp_total exact_bytes owned (held_floors h) owner i d rising_floors p

  pub floor_missing : (owner : List ℕ) (i : ℕ) → IsFloorPlace (held_floors h) owner (Err i) → floor_for h owner ≡ None
  floor_missing owner i p = ap (λ (m : FinMap name_cmp ℕ). get m owner) (sym floors_held) ∙
      get_none name_cmp nat_list_cmp_total exact_bytes owned (held_floors h) owner i p

  -- A floor that is taken is at its place.
  pub raise_puts : (f : Floor) (place : Result ℕ ℕ) → IsFloorPlace (held_floors h) f.owner place →
      held_floors (after_raise h f (Ok Taken)) ≡ put_at (held_floors h) place f
  raise_puts f place at =
      ap (λ es. map floor_from es)
      (entries-insert nat_list_cmp_total h.floors f.owner f.generation ∙ ap (put name_cmp f.owner f.generation) (sym own_floors)
      ∙ sym (put_there name_cmp nat_list_cmp_total exact_bytes owned (held_floors h) f place rising_floors at))
      ∙ floors_back (put_at (held_floors h) place f)

  pub floor_room_there : (owner : List ℕ) (place : Result ℕ ℕ) (n cap : ℕ) → IsFloorPlace (held_floors h) owner place →
      n ≡ length (held_floors h) → MatchResult place (λ i. ⊤) (λ i. n < cap)
      → MatchResult place (λ i. i < n) (λ i. (i ≤ n) × (n < cap))
  floor_room_there owner (Ok i) n cap at e w = omega (arith, at.0, e)
  floor_room_there owner (Err i) n cap at e w = (omega (arith, at.0, e), w)

  -- If an owner's place has no element, the owner has no floor.
  pub gap_has_no_floor : (owner : List ℕ) (place : Result ℕ ℕ) → IsFloorPlace (held_floors h) owner place → IsGap place →
      floor_for h owner ≡ None
  gap_has_no_floor owner (Ok i) at gap = absurd gap
  gap_has_no_floor owner (Err i) at gap = floor_missing owner i at

-- ---- what is found beside an owner
module _ {M : Type 0} (h : Holding) (ms : List M) (beside : IsBesideFloors h ms) where
  mark_is : (owner : List ℕ) → get (marks_beside_floors (held_floors h) ms) owner ≡ find name_cmp owner (marked_owners (held_floors h) ms)
  mark_is owner = get-from_entries nat_list_cmp_total (marked_owners (held_floors h) ms) owner

  -- just the owners whose floors are held have marks
  pub marked_owner : (owner : List ℕ) → is_some (get (marks_beside_floors (held_floors h) ms) owner) ≡ is_some (floor_for h owner)
  marked_owner owner =
      ap is_some (mark_is owner) ∙ marked_too name_cmp nat_list_cmp_total exact_bytes owned (held_floors h) ms owner beside
      ∙ ap is_some (sym (get-from_entries nat_list_cmp_total (by_owner (held_floors h)) owner)) ∙
      ap (λ (m : FinMap name_cmp ℕ). is_some (get m owner)) (floors_held h)

  -- the marks are those of the floors, one by one
  pub own_floor_mark : (i : ℕ) (f : Floor) → slice_get (held_floors h) i ≡ Some f →
      slice_get ms i ≡ get (marks_beside_floors (held_floors h) ms) f.owner
  own_floor_mark i f e =
      sym (mark_is f.owner
      ∙ find_mark name_cmp nat_list_cmp_total exact_bytes owned (held_floors h) ms f.owner i (rising_floors h) beside
      (place_from_get name_cmp nat_list_cmp_total exact_bytes owned (held_floors h) i f e))

  -- A floor and a mark at one index belong together.
  floor_mark_at : (i : ℕ) (f : Floor) (m : M) → slice_get (held_floors h) i ≡ Some f → slice_get ms i ≡ Some m →
      get (marks_beside_floors (held_floors h) ms) f.owner ≡ Some m
  floor_mark_at i f m e g = sym (own_floor_mark i f e) ∙ g

  pub floor_beside_at : {P : Type 0} (r : Option P) (f : P → Floor) (m : P → M) (i : ℕ) → option_map f r ≡ slice_get (held_floors h) i →
      option_map m r ≡ slice_get ms i →
      IfSome r (λ p. get (marks_beside_floors (held_floors h) ms) (f p).owner ≡ Some (m p))
  floor_beside_at None f m i e g = tt
  floor_beside_at (Some p) f m i e g = floor_mark_at i (f p) (m p) (sym e) (sym g)

  -- ---- another mark at an index
  pub floor_beside_set : (i : ℕ) (m : M) → IsBesideFloors h (set ms i m)
  floor_beside_set i m = omega (arith, length-set ms i m, beside)

  pub floor_marks_set : (i : ℕ) (m : M) → marks_beside_floors (held_floors h) (set ms i m) ≡ floor_remarked
      (marks_beside_floors (held_floors h) ms) (slice_get (held_floors h) i) m
  floor_marks_set i m = by_found (slice_get (held_floors h) i) refl
    where
      by_found : (o : Option Floor) → slice_get (held_floors h) i ≡ o →
          marks_beside_floors (held_floors h) (set ms i m) ≡ floor_remarked (marks_beside_floors (held_floors h) ms) o m
      by_found None q = marks_past name_cmp nat_list_cmp_total exact_bytes owned (held_floors h) ms i m beside q
      by_found (Some f) q = marks_at name_cmp nat_list_cmp_total exact_bytes owned (held_floors h) ms i f m (rising_floors h) beside q

  -- ---- what a raised floor and its mark leave
  module _ (f : Floor) (place : Result ℕ ℕ) (at : IsFloorPlace (held_floors h) f.owner place) (m : M) (new : Holding) (ns : List M)
      (after : new ≡ after_raise h f (Ok Taken)) (marks : ns ≡ put_at ms place m) where
    list : held_floors new ≡ put_at (held_floors h) place f
    list = ap (λ (x : Holding). held_floors x) after ∙ raise_puts h f place at

    pub floor_beside_raised : IsBesideFloors new ns
    floor_beside_raised = ap length marks ∙ each_put name_cmp nat_list_cmp_total exact_bytes owned (held_floors h) ms f m place beside at ∙
        sym (ap length list)

    pub floor_marks_raised : marks_beside_floors (held_floors new) ns ≡ finite.insert (marks_beside_floors (held_floors h) ms) f.owner m
    floor_marks_raised =
        ap (λ l. marks_beside_floors l ns) list ∙ ap (marks_beside_floors (put_at (held_floors h) place f)) marks
        ∙ marks_put name_cmp nat_list_cmp_total exact_bytes owned (held_floors h) ms f m place (rising_floors h) beside at

-- ---- nothing
module _ (lim : LimitsRecord) (h : Holding) (e : h ≡ nothing_held lim) where
  no_floors : held_floors h ≡ []
  no_floors = ap (λ (g : Holding). held_floors g) e ∙ floors_are [] [] lim tt

  module _ {M : Type 0} where
    pub floor_beside_nothing : (ms : List M) → ms ≡ [] → IsBesideFloors h ms
    floor_beside_nothing ms f = ap length f ∙ sym (ap length no_floors)

    floor_marks_nothing : (ms : List M) → ms ≡ [] → marks_beside_floors (held_floors h) ms ≡ finite.empty
    floor_marks_nothing ms f = ap (λ l. marks_beside_floors l ms) no_floors ∙ ap (λ l. marks_beside_floors {M = M} [] l) f

    abbrev marked_of : List M → List M → MarkedHolding M
    marked_of ms ns = record { held = h; marks = marks_beside (held_changes h) ms; floor_marks = marks_beside_floors (held_floors h) ns }

    pub nothing_is : (ms ns : List M) → ms ≡ [] → ns ≡ [] → marked_of ms ns ≡ nothing_marked lim
    nothing_is ms ns f g = λ i. record { held = e i; marks = marks_nothing lim h ms e f i; floor_marks = floor_marks_nothing ns g i }
