-- Pages of what is held.
use Rattle.std.proofs.Common.{◌≡◌, ◌≢◌, ℕ, zero, suc, ◌+◌, ◌-◌, ◌<◌, ◌≤◌, ◌==◌, nat_le, Bool, true, false, not, cond, List, [], ◌∷◌, ◌++◌}
use Rattle.std.proofs.Common.{map, filter, take, drop, length, Option, Some, None, is_none}
use Rattle.std.proofs.Common.{refl, ap, ap₂, sym, ◌∙◌, inl, inr, ◌⊎◌, arith, append_assoc, append-nil, length-append, eqb-true}
use Rattle.std.proofs.lemmas.Bool.{eqb-false, le-leb, lt-leb}
use Rattle.std.proofs.lemmas.Option.{same_Some}
use Rattle.std.proofs.lemmas.List.{map-append, take-append-drop, length-drop}
use Rattle.std.proofs.lemmas.List.Elements.{filter-append}
use Rattle.std.specs.Prelude.{slice_get}
use Rattle.ds_names.specs.declared.key.Key.{Key}
use Rattle.ds_entry.specs.Change.{ChangeRecord}
use Rattle.ds_entry.specs.Item.{passes}
use Rattle.ds_entry.specs.declared.floor.Floor.{Floor}
use Rattle.ds_entry.specs.declared.item.Item.{Item}
use Rattle.ds_entry.specs.declared.item.Item.TheVariants.{Change as Changed, Floor as Floored}
use Rattle.ds_feed.specs.Page.{is_after_key, still_to_come, floors_of, changes_of, page_of}
use Rattle.ds_feed.specs.declared.cursor.Cursor.{Cursor}
use Rattle.ds_feed.specs.declared.reading.Page.{Page}
use Rattle.ds_held.specs.Held.{Holding, held_items, held_changes, held_floors, change_item}
use Rattle.ds_held.specs.Kept.{floored}
use Rattle.ds_join.specs.Reading.{comes_after}
use Rattle.ds_content.specs.Paging.{admitted, to_come, more_after, given_change, ChangesArePaged}
use Rattle.ds_content.proofs.FlagLemmas.{few_taken, past_end}
use Rattle.ds_content.proofs.HoldingLemmas.{items_floored}

-- ---- numbers, and the front of a list
front : (xs ys : List ChangeRecord) → take (length xs) (xs ++ ys) ≡ xs
front [] [] = refl
front [] (y ∷ ys) = refl
front (x ∷ xs) ys = ap (λ l. x ∷ l) (front xs ys)

-- ---- one change after the other
split : (i : ℕ) (cs : List ChangeRecord) (c : ChangeRecord) → slice_get cs i ≡ Some c →
    (take (i + 1) cs ≡ take i cs ++ c ∷ []) × (drop i cs ≡ c ∷ drop (i + 1) cs)
split i [] c e = absurd (cc)
split zero (d ∷ cs) c e = (ap (λ (y : ChangeRecord). y ∷ []) (same_Some d c e), ap (λ (y : ChangeRecord). y ∷ cs) (same_Some d c e))
split (suc i) (d ∷ cs) c e =
    let more = split i cs c e in
    let next : suc i + 1 ≡ suc (i + 1) = omega arith in (
      ap (λ m. take m (d ∷ cs)) next ∙ ap (λ (l : List ChangeRecord). d ∷ l) more.0,
      more.1 ∙ ap (λ (l : List ChangeRecord). c ∷ l) (ap (λ m. drop m (d ∷ cs)) (sym next)),
    )

-- the changes from an index on
pub from_there : (first index : ℕ) (cs : List ChangeRecord) → first ≤ index → slice_get (drop first cs) (index - first) ≡ slice_get cs index
from_there zero index cs low = ap (slice_get cs) (omega arith)
from_there (suc first) index [] low = refl
from_there (suc first) zero (c ∷ cs) low = absurd (omega (arith, low))
from_there (suc first) (suc index) (c ∷ cs) low =
    ap (slice_get (drop first cs)) (omega arith) ∙ from_there first index cs (omega (arith, low))

pub past_all : (first index : ℕ) (cs : List ChangeRecord) → first ≤ index → slice_get cs index ≡ None →
    length (drop first cs) ≤ index - first
past_all first index cs low none = let past = past_end cs index none in let long = length-drop first cs in omega (arith, past, long, low)

-- if no more fit, none is added
none_given : (b : Bool) (left : ℕ) (c : ChangeRecord) → None ≡ more_after b left → given_change b left c ≡ []
none_given false left c m = absurd (cc)
none_given true left c m = by_left (left == 0) m
  where
    by_left : (z : Bool) → None ≡ cond z None (Some (left - 1)) → cond (not z) (c ∷ []) [] ≡ []
    by_left true m = refl
    by_left false m = absurd (cc)

module _ (keep : Key → Bool) (cs : List ChangeRecord) (max : ℕ) (start : List Item) where
  pub paged_starts : ChangesArePaged keep cs 0 max max start start
  paged_starts = record { items_are = sym (append-nil start); count = omega arith }

  module _ (seen left : ℕ) (items : List Item) (p : ChangesArePaged keep cs seen max left start items) where
    abbrev done : List ChangeRecord
    done = admitted keep (take seen cs)

    -- all were seen
    pub paged_all : length cs ≤ seen → (items ≡ start ++ map change_item (take max (admitted keep cs))) ×
        (nat_le (length (admitted keep cs)) max ≡ true)
    paged_all all =
        let whole : done ≡ admitted keep cs = ap (admitted keep) (few_taken seen cs all) in
        let few : length (admitted keep cs) ≤ max = omega (arith, ap (λ (l : List ChangeRecord). length l) whole, p.count) in (
          p.items_are ∙ ap (λ l. start ++ map change_item l) (whole ∙ sym (few_taken max (admitted keep cs) few)),
          le-leb (length (admitted keep cs)) max few,
        )

    module _ (c : ChangeRecord) (found : slice_get cs seen ≡ Some c) where
      -- the change is under the scope, and no more fit
      pub paged_full : (b : Bool) → keep c.key ≡ b → None ≡ more_after b left →
          (items ≡ start ++ map change_item (take max (admitted keep cs))) × (nat_le (length (admitted keep cs)) max ≡ false)
      paged_full false e m = absurd (cc)
      paged_full true e m = by_left (left == 0) refl m
        where
          tail : List ChangeRecord
          tail = admitted keep (drop (seen + 1) cs)

          by_left : (z : Bool) → (left == 0) ≡ z → None ≡ cond z None (Some (left - 1)) →
              (items ≡ start ++ map change_item (take max (admitted keep cs))) × (nat_le (length (admitted keep cs)) max ≡ false)
          by_left false q m = absurd (cc)
          by_left true q m =
              let none : left ≡ 0 = eqb-true left 0 q in
              let rest : admitted keep (drop seen cs) ≡ c ∷ tail =
              ap (admitted keep) (split seen cs c found).1 ∙ ap (λ x. cond x (c ∷ tail) tail) e in
              let all : done ++ c ∷ tail ≡ admitted keep cs =
              ap (λ l. done ++ l) (sym rest) ∙ sym (filter-append (λ (x : ChangeRecord). keep x.key) (take seen cs) (drop seen cs)) ∙
              ap (admitted keep) (take-append-drop seen cs) in
              let long : length done ≡ max = omega (arith, p.count, none) in
              let more : length (admitted keep cs) ≡ length done + length (c ∷ tail) =
              ap (λ (l : List ChangeRecord). length l) (sym all) ∙ length-append done (c ∷ tail) in
              let over : max < length (admitted keep cs) = omega (arith, more, long) in (
                p.items_are ∙ ap (λ l. start ++ map change_item l)
                    (sym (ap₂ (λ n (l : List ChangeRecord). take n l) (sym long) (sym all) ∙ front done (c ∷ tail))),
                lt-leb (length (admitted keep cs)) max over,
              )

      -- then it isn't added
      pub paged_stops : (b : Bool) → keep c.key ≡ b → None ≡ more_after b left → (added : List Item) →
          added ≡ items ++ map change_item (given_change b left c) → added ≡ start ++ map change_item (take max (admitted keep cs))
      paged_stops b e m added is = is ∙ ap (λ l. items ++ map change_item l) (none_given b left c m) ∙ append-nil items ∙
          (paged_full b e m).0

      -- it is passed over, or added
      next_is : (b : Bool) → keep c.key ≡ b → admitted keep (take (seen + 1) cs) ≡ done ++ cond b (c ∷ []) []
      next_is b e = ap (admitted keep) (split seen cs c found).0 ∙
          filter-append (λ (x : ChangeRecord). keep x.key) (take seen cs) (c ∷ []) ∙ ap (λ x. done ++ cond x (c ∷ []) []) e

      pub paged_more : (b : Bool) → keep c.key ≡ b → (more : ℕ) → Some more ≡ more_after b left → (added : List Item) →
          added ≡ items ++ map change_item (given_change b left c) → ChangesArePaged keep cs (seen + 1) max more start added
      paged_more false e more m added is =
          let next : admitted keep (take (seen + 1) cs) ≡ done = next_is false e ∙ append-nil done in
          record {
            items_are = is ∙ append-nil items ∙ p.items_are ∙ ap (λ l. start ++ map change_item l) (sym next);
            count = let same : more ≡ left = cc in omega (arith, same, p.count, ap (λ (l : List ChangeRecord). length l) next);
          }
      paged_more true e more m added is = by_left (left == 0) refl m is
        where
          by_left : (z : Bool) → (left == 0) ≡ z → Some more ≡ cond z None (Some (left - 1)) →
              added ≡ items ++ map change_item (cond (not z) (c ∷ []) []) → ChangesArePaged keep cs (seen + 1) max more start added
          by_left true q m is = absurd (cc)
          by_left false q m is =
              let same : more ≡ left - 1 = cc in
              let some : left ≡ 0 → ⊥ = eqb-false left 0 q in
              let next : admitted keep (take (seen + 1) cs) ≡ done ++ c ∷ [] = next_is true e in
              let longer = length-append done (c ∷ []) in
              record {
                items_are = is ∙ ap (λ l. l ++ Changed c ∷ []) p.items_are ∙ append_assoc start (map change_item done) (Changed c ∷ []) ∙
                    ap (λ l. start ++ l) (sym (map-append change_item done (c ∷ []))) ∙ ap (λ l. start ++ map change_item l) (sym next);
                count = omega (arith, same, some, longer, p.count, ap (λ (l : List ChangeRecord). length l) next);
              }

-- ---- the page
module _ (keep : Key → Bool) where
  after_is : (after : Option Key) (c : ChangeRecord) → is_after_key after (Changed c) ≡ comes_after after c
  after_is None c = refl
  after_is (Some a) c = refl

  -- of the changes
  changes_to_come : (after : Option Key) (cs : List ChangeRecord) →
      still_to_come (passes keep) after (map change_item cs) ≡ map change_item (to_come keep after cs)
  changes_to_come after [] = refl
  changes_to_come after (c ∷ cs) = by_test (changes_to_come after cs) (keep c.key) (is_after_key after (Changed c)) (comes_after after c)
      refl refl (after_is after c)
    where
      by_test : still_to_come (passes keep) after (map change_item cs) ≡ map change_item (to_come keep after cs) → (k b d : Bool) →
          keep c.key ≡ k → is_after_key after (Changed c) ≡ b → b ≡ d
          → filter (is_after_key after) (cond k (Changed c ∷ filter (passes keep) (map change_item cs))
          (filter (passes keep) (map change_item cs))) ≡ map change_item
          (filter (λ (x : ChangeRecord). keep x.key) (cond d (c ∷ filter (comes_after after) cs) (filter (comes_after after) cs)))
      by_test rest k true false e f g = absurd (cc)
      by_test rest k false true e f g = absurd (cc)
      by_test rest true true true e f g = rw (e, f) (ap (λ l. Changed c ∷ l) rest)
      by_test rest false true true e f g = rw e rest
      by_test rest true false false e f g = rw f rest
      by_test rest false false false e f g = rest

  no_floors : (cs : List ChangeRecord) → floors_of (map change_item cs) ≡ []
  no_floors [] = refl
  no_floors (c ∷ cs) = no_floors cs

  all_changes : (cs : List ChangeRecord) → changes_of (map change_item cs) ≡ map change_item cs
  all_changes [] = refl
  all_changes (c ∷ cs) = ap (λ l. Changed c ∷ l) (all_changes cs)

  -- with the floors before them
  floors_first : (after : Option Key) (fs : List Floor) (cs : List ChangeRecord) →
      floors_of (still_to_come (passes keep) after (map floored fs ++ map change_item cs)) ≡ cond (is_none after) (map floored fs) []
  floors_first None [] cs = ap floors_of (changes_to_come None cs) ∙ no_floors (to_come keep None cs)
  floors_first (Some a) [] cs = ap floors_of (changes_to_come (Some a) cs) ∙ no_floors (to_come keep (Some a) cs)
  floors_first None (f ∷ fs) cs = ap (λ l. Floored f ∷ l) (floors_first None fs cs)
  floors_first (Some a) (f ∷ fs) cs = floors_first (Some a) fs cs

  changes_then : (after : Option Key) (fs : List Floor) (cs : List ChangeRecord) →
      changes_of (still_to_come (passes keep) after (map floored fs ++ map change_item cs)) ≡ map change_item (to_come keep after cs)
  changes_then after [] cs = ap changes_of (changes_to_come after cs) ∙ all_changes (to_come keep after cs)
  changes_then None (f ∷ fs) cs = changes_then None fs cs
  changes_then (Some a) (f ∷ fs) cs = changes_then (Some a) fs cs

  length_mapped : (cs : List ChangeRecord) → length (map change_item cs) ≡ length cs
  length_mapped [] = refl
  length_mapped (c ∷ cs) = ap suc (length_mapped cs)

  take_mapped : (n : ℕ) (cs : List ChangeRecord) → take n (map change_item cs) ≡ map change_item (take n cs)
  take_mapped zero cs = refl
  take_mapped (suc n) [] = refl
  take_mapped (suc n) (c ∷ cs) = ap (λ l. Changed c ∷ l) (take_mapped n cs)

  page_same : {xs ys : List Item} {a b : Bool} (cursor : Cursor) → xs ≡ ys → a ≡ b → let one : Page =
      record { items = xs; last = a; cursor = cursor } in one ≡ record { items = ys; last = b; cursor = cursor }
  page_same cursor e f = λ i. record { items = e i; last = f i; cursor = cursor }

  pub page_is : (h : Holding) (after : Option Key) (max : ℕ) (cursor : Cursor) (items : List Item) (last : Bool) →
      items ≡ cond (is_none after) (map floored (held_floors h)) [] ++ map change_item (take max (to_come keep after (held_changes h)))
      → last ≡ nat_le (length (to_come keep after (held_changes h))) max → let one : Page =
      record { items = items; last = last; cursor = cursor } in one ≡ page_of (passes keep) after max (held_items h) cursor
  page_is h after max cursor items last is end =
      let fs = held_floors h in
      let cs = held_changes h in
      let changes = changes_then after fs cs in
      page_same cursor (is ∙ ap₂ (λ l m. l ++ m) (sym (floors_first after fs cs))
      (sym (take_mapped max (to_come keep after cs)) ∙ ap (take max) (sym changes)))
      (end ∙ ap (λ n. nat_le n max) (sym (length_mapped (to_come keep after cs)) ∙ ap (λ (l : List Item). length l) (sym changes)))
      ∙ ap (λ l. page_of (passes keep) after max l cursor) (sym (items_floored h))

-- ---- the floors of the first page
floor_next : (n : ℕ) (fs : List Floor) (f : Floor) → slice_get fs n ≡ Some f → take (n + 1) fs ≡ take n fs ++ f ∷ []
floor_next n [] f e = absurd (cc)
floor_next zero (g ∷ fs) f e = ap (λ (y : Floor). y ∷ []) (same_Some g f e)
floor_next (suc n) (g ∷ fs) f e =
    let more = floor_next n fs f e in
    let next : suc n + 1 ≡ suc (n + 1) = omega arith in
    ap (λ m. take m (g ∷ fs)) next ∙ ap (λ (l : List Floor). g ∷ l) more

pub floors_more : (fs : List Floor) (n : ℕ) (f : Floor) (items more : List Item) → items ≡ map floored (take n fs) →
    slice_get fs n ≡ Some f → more ≡ items ++ Floored f ∷ [] → more ≡ map floored (take (n + 1) fs)
floors_more fs n f items more e at is =
    is ∙ ap (λ l. l ++ Floored f ∷ []) e ∙ sym (map-append floored (take n fs) (f ∷ [])) ∙ ap (map floored) (sym (floor_next n fs f at))

pub floors_all : (fs : List Floor) (n : ℕ) (items : List Item) → items ≡ map floored (take n fs) → slice_get fs n ≡ None →
    items ≡ map floored fs
floors_all fs n items e none = e ∙ ap (map floored) (few_taken n fs (past_end fs n none))

-- ---- something to give
pub part_some : {X : Type 0} (xs ys : List X) → (xs ≢ []) ⊎ (ys ≢ []) → xs ++ ys ≢ []
part_some [] ys (inl some) e = some refl
part_some [] ys (inr some) e = some e
part_some (x ∷ xs) ys some e = cc

pub kept_some : {X : Type 0} (test : X → Bool) (xs : List X) (i : ℕ) (x : X) → slice_get xs i ≡ Some x → test x ≡ true → filter test xs ≢ []
kept_some test [] i x here t e = cc
kept_some test (y ∷ xs) zero x here t e = at (test y) (ap test (same_Some y x here) ∙ t) e
  where
    at : (b : Bool) → b ≡ true → cond b (y ∷ filter test xs) (filter test xs) ≢ []
    at true t e = cc
    at false t e = cc
kept_some test (y ∷ xs) (suc i) x here t e = at (test y) (kept_some test xs i x here t) e
  where
    at : (b : Bool) → filter test xs ≢ [] → cond b (y ∷ filter test xs) (filter test xs) ≢ []
    at true some e = cc
    at false some e = some e

pub taken_some : (max : ℕ) (cs : List ChangeRecord) → 0 < max → cs ≢ [] → map change_item (take max cs) ≢ []
taken_some zero cs l some e = absurd (omega (arith, l))
taken_some (suc max) [] l some e = some refl
taken_some (suc max) (c ∷ cs) l some e = cc

-- what a page gives, whatever its cursor
pub page_gives : (keep : Key → Bool) (h : Holding) (after : Option Key) (max : ℕ) (cursor : Cursor)
    → cond (is_none after) (map floored (held_floors h)) [] ++ map change_item (take max (to_come keep after (held_changes h))) ≡
    (page_of (passes keep) after max (held_items h) cursor).items
page_gives keep h after max cursor = ap (λ (p : Page). p.items) (page_is keep h after max cursor _ _ refl refl)

pub mapped_some : {X A : Type 0} (f : X → A) (xs : List X) (i : ℕ) (x : X) → slice_get xs i ≡ Some x → map f xs ≢ []
mapped_some f [] i x here e = cc
mapped_some f (y ∷ xs) i x here e = cc
