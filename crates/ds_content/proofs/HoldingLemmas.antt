-- What is held, as a holder keeps it and as items.
use Rattle.std.proofs.Common.{◌≡◌, ℕ, zero, suc, ◌+◌, ap₂, ◌<◌, Bool, true, false, List, [], ◌∷◌, ◌++◌, map, length, Option, Some, None}
use Rattle.std.proofs.Common.{Result, Ok, Err, refl, ap, sym, ◌∙◌, subst, inr, arith, Contains}
use Rattle.std.specs.Prelude.{slice_get}
use Rattle.std.specs.FinMap.{entries, len-entries}
use Rattle.std.specs.Option.{option_map}
use Rattle.ds_names.specs.declared.key.Key.{Key}
use Rattle.ds_entry.specs.Change.{ChangeRecord}
use Rattle.ds_entry.specs.Floor.{floor_of}
use Rattle.ds_entry.specs.Void.{voids, voids_it, is_void}
use Rattle.ds_entry.specs.declared.floor.Floor.{Floor}
use Rattle.ds_entry.specs.declared.item.Item.{Item}
use Rattle.ds_entry.specs.declared.item.Item.TheVariants.{Change as Changed, Floor as Floored}
use Rattle.ds_entry.proofs.Members.{Contains-from_list_any, none_pass}
use Rattle.ds_entry.proofs.ItemLemmas.{voids-is, covers-refl}
use Rattle.ds_join.specs.ItemTop.{IsTop}
use Rattle.ds_join.specs.declared.merge.Merge.TheVariants.{Taken}
use Rattle.ds_held.specs.Held.{Holding, held_items, held_changes, held_floors, held_for, held_count, floor_for, floor_count, floor_item}
use Rattle.ds_held.specs.Held.{change_item, is_below, is_void_at, IsSound}
use Rattle.ds_held.specs.Kept.{floored, IsFloorPlace}
use Rattle.ds_index.proofs.FloorMarkLemmas.{floor_found, floor_missing}
use Rattle.std.proofs.lemmas.Option.{get_or_from_slice_get}
use Rattle.ds_content.proofs.FlagLemmas.{past_end}
use Rattle.ds_held.specs.Merge.{MergeAnswer, AnswersFor}
use Rattle.ds_held.specs.Raise.{RaiseAnswer, AnswersFloor}
use Rattle.ds_held.proofs.HeldLemmas.{is_held, change_in, floor_in, held_is_top, count_is}
use Rattle.ds_machine.specs.Parts.{changes_in, floors_in, held_at, floor_at}
use Rattle.ds_machine.specs.Standing.{HasRoom, HasFloorRoom}
use Rattle.ds_machine.proofs.PartLemmas.{key_found, key_missing, owner_found, owner_missing}
use Rattle.std.proofs.lemmas.List.{length-map}

-- ---- the changes and the floors
changes_alone : (cs : List ChangeRecord) → changes_in (map change_item cs) ≡ cs
changes_alone [] = refl
changes_alone (c ∷ cs) = ap (λ l. c ∷ l) (changes_alone cs)

changes_after : (es : List (List ℕ × ℕ)) (cs : List ChangeRecord) → changes_in (map floor_item es ++ map change_item cs) ≡ cs
changes_after [] cs = changes_alone cs
changes_after (e ∷ es) cs = changes_after es cs

no_floors : (cs : List ChangeRecord) → floors_in (map change_item cs) ≡ []
no_floors [] = refl
no_floors (c ∷ cs) = no_floors cs

floors_before : (es : List (List ℕ × ℕ)) (cs : List ChangeRecord) →
    floors_in (map floor_item es ++ map change_item cs) ≡ map (λ (e : List ℕ × ℕ). floor_of e.0 e.1) es
floors_before [] cs = no_floors cs
floors_before (e ∷ es) cs = ap (λ l. floor_of e.0 e.1 ∷ l) (floors_before es cs)

pub changes_are : (h : Holding) → changes_in (held_items h) ≡ held_changes h
changes_are h = changes_after (entries h.floors) (held_changes h)

pub floors_are : (h : Holding) → floors_in (held_items h) ≡ held_floors h
floors_are h = floors_before (entries h.floors) (held_changes h)

pub count_floors : (h : Holding) → length (held_floors h) ≡ floor_count h
count_floors h = omega (arith, length-map (entries h.floors) (λ (e : List ℕ × ℕ). floor_of e.0 e.1), len-entries h.floors)

pub changes_counted : (h : Holding) → length (changes_in (held_items h)) ≡ held_count h
changes_counted h = ap (λ (l : List ChangeRecord). length l) (changes_are h) ∙ count_is h

pub floors_counted : (h : Holding) → length (floors_in (held_items h)) ≡ floor_count h
floors_counted h = ap (λ (l : List Floor). length l) (floors_are h) ∙ count_floors h

-- ---- what is held for a key, and for an owner
module _ (h : Holding) (sound : IsSound h) where
  pub held_at-is : (key : Key) → held_at (held_items h) key ≡ held_for h key
  held_at-is key = by_found (held_at (held_items h) key) refl (held_for h key) refl
    where
      by_found : (o : Option ChangeRecord) → held_at (held_items h) key ≡ o → (p : Option ChangeRecord) → held_for h key ≡ p → o ≡ p
      by_found (Some d) e p f =
          let at = key_found (held_items h) key d e in
          sym (is_held h sound (Changed d) at.0) ∙ ap (λ (k : Key). held_for h k) (sym at.1) ∙ f
      by_found None e None f = refl
      by_found None e (Some c) f = absurd (key_missing (held_items h) key c e (change_in h key c f) (sym (sound.own key c f)))

  pub floor_at-is : (owner : List ℕ) → floor_at (held_items h) owner ≡ option_map (floor_of owner) (floor_for h owner)
  floor_at-is owner = by_found (floor_at (held_items h) owner) refl (floor_for h owner) refl
    where
      by_found : (o : Option Floor) → floor_at (held_items h) owner ≡ o → (p : Option ℕ) → floor_for h owner ≡ p →
          o ≡ option_map (floor_of owner) p
      by_found (Some f) e p q =
          let at = owner_found (held_items h) owner f e in
          let here : p ≡ Some f.generation = sym q ∙ ap (λ (n : List ℕ). floor_for h n) at.1 ∙ is_held h sound (Floored f) at.0 in
          ap (λ (n : List ℕ). Some (floor_of n f.generation)) (sym at.1) ∙ sym (ap (option_map (floor_of owner)) here)
      by_found None e None q = refl
      by_found None e (Some g) q = absurd (owner_missing (held_items h) owner (floor_of owner g) e (floor_in h owner g q) refl)

  pub void-is : (c : ChangeRecord) → is_void (held_items h) c ≡ is_void_at h c
  void-is c = by_test (is_void (held_items h) c) refl
    where
      below : (i : Item) → Contains (held_items h) i → voids_it c i ≡ true → is_void_at h c ≡ true
      below (Changed d) k e = absurd (let no : false ≡ true = e in cc)
      below (Floored f) k e =
          let o : c.owner ≡ f.owner = (voids-is f c e).owner in
          let at : floor_for h c.owner ≡ Some f.generation = ap (λ (n : List ℕ). floor_for h n) o ∙ is_held h sound (Floored f) k in
          ap (λ p. is_below p c) at ∙ ap (λ (n : List ℕ). voids (floor_of n f.generation) c) o ∙ e

      none_below : (p : Option ℕ) → floor_for h c.owner ≡ p → is_void (held_items h) c ≡ false → is_below p c ≡ false
      none_below None q e = refl
      none_below (Some g) q e = none_pass (voids_it c) (held_items h) (Floored (floor_of c.owner g)) e (floor_in h c.owner g q)

      by_test : (b : Bool) → is_void (held_items h) c ≡ b → b ≡ is_void_at h c
      by_test true e =
          let r = Contains-from_list_any (voids_it c) (held_items h) e in
          sym (below r.0 r.1 r.2)
      by_test false e = sym (none_below (floor_for h c.owner) refl e)

-- ---- the generation of a floor whose place was found
pub generation_of : (owner : List ℕ) (o : Option ℕ) → o ≡ option_map (λ (f : Floor). f.generation) (option_map (floor_of owner) o)
generation_of owner None = refl
generation_of owner (Some g) = refl

floor_there : (h : Holding) (owner : List ℕ) (place : Result ℕ ℕ) → IsFloorPlace (held_floors h) owner place → (i : ℕ) → place ≡ Ok i →
    (o : Option Floor) →
    o ≡ slice_get (held_floors h) i → option_map (λ (f : Floor). f.generation) o ≡ floor_for h owner
floor_there h owner place p i q None e =
    let here : IsFloorPlace (held_floors h) owner (Ok i) = subst (IsFloorPlace (held_floors h) owner) q p in
    let past = past_end (held_floors h) i (sym e) in
    let within = here.0 in
    absurd (omega (arith, past, within))
floor_there h owner place p i q (Some f) e =
    ap (λ (x : Floor). Some x.generation) (sym (get_or_from_slice_get (held_floors h) i f f (sym e))) ∙
    sym (floor_found h owner i f (subst (IsFloorPlace (held_floors h) owner) q p))

pub generation_at : (h : Holding) (sound : IsSound h) (owner : List ℕ) (place : Result ℕ ℕ) → IsFloorPlace (held_floors h) owner place →
    (i : ℕ) → place ≡ Ok i → (o : Option Floor) → o ≡ slice_get (held_floors h) i
    → option_map (λ (f : Floor). f.generation) o ≡ option_map (λ (f : Floor). f.generation) (floor_at (held_items h) owner)
generation_at h sound owner place p i q o e =
    floor_there h owner place p i q o e ∙ generation_of owner (floor_for h owner) ∙
    ap (option_map (λ (f : Floor). f.generation)) (sym (floor_at-is h sound owner))

pub no_generation_at : (h : Holding) (sound : IsSound h) (owner : List ℕ) (place : Result ℕ ℕ) → IsFloorPlace (held_floors h) owner place →
    (i : ℕ) → place ≡ Err i
    → None ≡ option_map (λ (f : Floor). f.generation) (floor_at (held_items h) owner)
no_generation_at h sound owner place p i q =
    ap (option_map (λ (f : Floor). f.generation))
    (sym (floor_at-is h sound owner ∙ ap (option_map (floor_of owner))
    (floor_missing h owner i (subst (IsFloorPlace (held_floors h) owner) q p))))

-- ---- what no cause applies to is taken
change_by : (o : Option ChangeRecord) (count most : ℕ) (c : ChangeRecord) → HasRoom o count most c →
    AnswersFor o false count most c (Ok Taken)
change_by None count most c room = room
change_by (Some h) count most c room = inr room

pub change_taken : (h : Holding) (sound : IsSound h) (c : ChangeRecord) →
    HasRoom (held_at (held_items h) c.key) (length (changes_in (held_items h))) h.limits.keys c → is_void (held_items h) c ≡ false →
    MergeAnswer h c (Ok Taken)
change_taken h sound c room kept =
    subst (λ b. AnswersFor (held_for h c.key) b (held_count h) h.limits.keys c (Ok Taken)) (sym (sym (void-is h sound c) ∙ kept))
    (change_by (held_for h c.key) (held_count h) h.limits.keys c
    (subst (λ n. HasRoom (held_for h c.key) n h.limits.keys c) (changes_counted h)
    (subst (λ o. HasRoom o (length (changes_in (held_items h))) h.limits.keys c) (held_at-is h sound c.key) room)))

floor_by : (o : Option ℕ) (count : ℕ) (f : Floor) → HasFloorRoom (option_map (floor_of f.owner) o) count f →
    AnswersFloor o count f.generation (Ok Taken)
floor_by None count f room = room
floor_by (Some g) count f room = room

pub floor_taken : (h : Holding) (sound : IsSound h) (f : Floor) →
    HasFloorRoom (floor_at (held_items h) f.owner) (length (floors_in (held_items h))) f → RaiseAnswer h f (Ok Taken)
floor_taken h sound f room =
    floor_by (floor_for h f.owner) (floor_count h) f
    (subst (λ n. HasFloorRoom (option_map (floor_of f.owner) (floor_for h f.owner)) n f) (floors_counted h)
    (subst (λ o. HasFloorRoom o (length (floors_in (held_items h))) f) (floor_at-is h sound f.owner) room))

-- ---- the item at an index
module _ {X Y : Type 0} (f : X → Item) (g : Y → Item) where
  at_front : (xs : List X) (ys : List Y) (k : ℕ) → k < length xs → slice_get (map f xs ++ map g ys) k ≡ option_map f (slice_get xs k)
  at_front [] ys k l = absurd (omega arith)
  at_front (x ∷ xs) ys zero l = refl
  at_front (x ∷ xs) ys (suc k) l = at_front xs ys k (omega arith)

  at_all : (ys : List Y) (k : ℕ) → slice_get (map g ys) k ≡ option_map g (slice_get ys k)
  at_all [] k = refl
  at_all (y ∷ ys) zero = refl
  at_all (y ∷ ys) (suc k) = at_all ys k

  at_back : (xs : List X) (ys : List Y) (k j : ℕ) → k ≡ length xs + j → slice_get (map f xs ++ map g ys) k ≡ option_map g (slice_get ys j)
  at_back [] ys k j e = let same : k ≡ j = omega (arith, e) in ap (slice_get (map g ys)) same ∙ at_all ys j
  at_back (x ∷ xs) ys zero j e = absurd (omega (arith, e))
  at_back (x ∷ xs) ys (suc k) j e = at_back xs ys k j (omega (arith, e))

map_both : {X Y Z : Type 0} (f : Y → Z) (g : X → Y) (h : X → Z) (xs : List X) → ((x : X) → f (g x) ≡ h x) → map h xs ≡ map f (map g xs)
map_both f g h [] e = refl
map_both f g h (x ∷ xs) e = ap₂ ◌∷◌ (sym (e x)) (map_both f g h xs e)

pub items_floored : (h : Holding) → held_items h ≡ map floored (held_floors h) ++ map change_item (held_changes h)
items_floored h = ap (λ l. l ++ map change_item (held_changes h))
    (map_both floored (λ (e : List ℕ × ℕ). floor_of e.0 e.1) floor_item (entries h.floors) (λ e. refl))

pub floor_item_at : (h : Holding) (k : ℕ) → k < floor_count h →
    slice_get (held_items h) k ≡ option_map (λ f. Floored f) (slice_get (held_floors h) k)
floor_item_at h k l =
    let n = count_floors h in
    ap (λ l. slice_get l k) (items_floored h) ∙ at_front floored change_item (held_floors h) (held_changes h) k (omega (arith, n, l))

pub change_item_at : (h : Holding) (k j : ℕ) → k ≡ floor_count h + j →
    slice_get (held_items h) k ≡ option_map (λ c. Changed c) (slice_get (held_changes h) j)
change_item_at h k j e =
    let n = count_floors h in
    ap (λ l. slice_get l k) (items_floored h) ∙ at_back floored change_item (held_floors h) (held_changes h) k j (omega (arith, n, e))

pub top_itself : (h : Holding) → IsSound h → IsTop (held_items h) (held_items h)
top_itself h sound = held_is_top h sound (held_items h) (λ i k. k) (λ i k. (i, k, covers-refl i))
