-- Items that arrive in order: they leave the join of what was held and of them.
use Rattle.std.proofs.Common.{◌≡◌, ℕ, zero, suc, ◌+◌, ◌<◌, ◌≤◌, List, [], ◌∷◌, ◌++◌, map, length, get_or, take, Some, Result, Ok, Err}
use Rattle.std.proofs.Common.{append_assoc, refl, sym, ap, ◌∙◌, subst, inl, inr, arith}
use Rattle.std.proofs.lemmas.Option.{same_Some}
use Rattle.std.proofs.lemmas.List.{take_all, length-map}
use Rattle.std.proofs.lemmas.List.Elements.{Contains-append_left, Contains-append_cases}
use Rattle.std.specs.Result.{OnOk, IfErr}
use Rattle.std.specs.List.{slice_get}
use Rattle.ds_entry.specs.declared.item.Item.{Item}
use Rattle.ds_entry.specs.declared.item.Item.TheVariants.{Change as Changed, Floor as Floored}
use Rattle.ds_entry.proofs.Members.{Contains-nil}
use Rattle.ds_entry.proofs.ItemLemmas.{covers-refl}
use Rattle.ds_join.specs.declared.merge.Merge.{Merge}
use Rattle.ds_join.specs.declared.merge.JoinFault.{JoinFault}
use Rattle.ds_join.specs.declared.merge.Stop.{Stop}
use Rattle.ds_join.specs.ItemTop.{IsTop}
use Rattle.ds_join.proofs.ItemTopLemmas.{top_of_top}
use Rattle.ds_held.specs.Held.{Holding, held_items, IsSound}
use Rattle.ds_held.specs.Join.{ItemAnswer, after_item, IsItemRefused, AreMerged, IsJoinStopped, JoinStopsAfter}
use Rattle.ds_held.proofs.HeldLemmas.{held_is_top}
use Rattle.ds_held.proofs.MergeLemmas.{merge_joins}
use Rattle.ds_held.proofs.RaiseLemmas.{raise_joins}
use Rattle.ds_held.proofs.DropLemmas.{one_and}

-- ---- one item
item_sound : (h : Holding) → IsSound h → (i : Item) (m : Merge) → ItemAnswer h i (Ok m) → IsSound (after_item h i (Ok m))
item_sound h sound (Changed c) m a = (merge_joins h sound c (Ok m) a).sound_after
item_sound h sound (Floored f) m a = (raise_joins h sound f (Ok m) a).sound_after

item_joins : (h : Holding) → IsSound h → (i : Item) (m : Merge) → ItemAnswer h i (Ok m) →
    IsTop (held_items (after_item h i (Ok m))) (held_items h ++ i ∷ [])
item_joins h sound (Changed c) m a = (merge_joins h sound c (Ok m) a).joined
item_joins h sound (Floored f) m a = (raise_joins h sound f (Ok m) a).joined

-- ---- all of them
nothing_joins : (h : Holding) → IsSound h → IsTop (held_items h) (held_items h ++ [])
nothing_joins h sound =
    held_is_top h sound (held_items h ++ []) (λ i k. Contains-append_left (held_items h) [] i k)
    (λ i k. elim (Contains-append_cases (held_items h) [] i k)
    [ inl here ↦ (i, here, covers-refl i) | inr none ↦ absurd (Contains-nil i none) ])

pub all_join : (old : Holding) (items : List Item) (new : Holding) → IsSound old → AreMerged old items new →
    IsTop (held_items new) (held_items old ++ items)
all_join old [] new sound w = subst (λ (h : Holding). IsTop (held_items h) (held_items old ++ [])) (sym w) (nothing_joins old sound)
all_join old (i ∷ items) new sound w =
    subst (IsTop (held_items new)) (append_assoc (held_items old) (i ∷ []) items)
    (top_of_top (held_items old ++ i ∷ []) items (held_items (after_item old i (Ok w.0))) (held_items new) (item_joins old sound i w.0 w.1)
    (all_join (after_item old i (Ok w.0)) items new (item_sound old sound i w.0 w.1) w.2))

one_later : (old : Holding) (items : List Item) (m new : Holding) (i : Item) (r : Merge) → AreMerged old items m → ItemAnswer m i (Ok r) →
    new ≡ after_item m i (Ok r) → AreMerged old (items ++ i ∷ []) new
one_later old [] m new i r w a e =
    (r, subst (λ (h : Holding). ItemAnswer h i (Ok r)) w a, e ∙ ap (λ (h : Holding). after_item h i (Ok r)) w)
one_later old (j ∷ items) m new i r w a e = (w.0, w.1, one_later (after_item old j (Ok w.0)) items m new i r w.2 a e)

-- First these, then the others.
merged_both : (old : Holding) (xs ys : List Item) (m new : Holding) → AreMerged old xs m → AreMerged m ys new → AreMerged old (xs ++ ys) new
merged_both old [] ys m new v w = subst (λ (h : Holding). AreMerged h ys new) v w
merged_both old (x ∷ xs) ys m new v w = (v.0, v.1, merged_both (after_item old x (Ok v.0)) xs ys m new v.2 w)

-- ---- one more of a list
one_more : {X : Type 0} (n : ℕ) (xs : List X) (x : X) → slice_get xs n ≡ Some x → (n < length xs) × (take (suc n) xs ≡ take n xs ++ x ∷ [])
one_more n [] x e = absurd (cc)
one_more zero (y ∷ ys) x e = (omega arith, ap (λ z. z ∷ []) (same_Some y x e))
one_more (suc n) (y ∷ ys) x e =
    let later = one_more n ys x e in
    (omega (arith, later.0), ap (λ l. y ∷ l) later.1)

-- The item that a walk of a list has reached.
next_of : {X : Type 0} (f : X → Item) (xs : List X) (i : ℕ) (x : X) → i < length xs → x ≡ get_or xs i x →
    slice_get (map f xs) i ≡ Some (f x)
next_of f [] i x w e = absurd (omega (arith, w))
next_of f (y ∷ ys) zero x w e = ap (λ z. Some (f z)) (sym e)
next_of f (y ∷ ys) (suc i) x w e = next_of f ys i x (omega (arith, w)) e

module _ {X : Type 0} (f : X → Item) (old : Holding) (xs : List X) (m : Holding) (done i : ℕ) (at : done ≡ i)
    (w : AreMerged old (take done (map f xs)) m) where
  module _ (x : X) (within : i < length xs) (here : x ≡ get_or xs i x) where
    next : slice_get (map f xs) done ≡ Some (f x)
    next = ap (slice_get (map f xs)) at ∙ next_of f xs i x within here

    pub goes_on : (new : Holding) (r : Merge) → ItemAnswer m (f x) (Ok r) → new ≡ after_item m (f x) (Ok r) →
        AreMerged old (take (done + 1) (map f xs)) new
    goes_on new r a e =
        subst (λ l. AreMerged old l new) (sym (ap (λ n. take n (map f xs)) one ∙ (one_more done (map f xs) (f x) next).1))
        (one_later old (take done (map f xs)) m new (f x) r w a e)
      where
        one : done + 1 ≡ suc done
        one = omega arith

    pub stops : (new : Holding) (fault : JoinFault) → IsItemRefused m (f x) fault → new ≡ m →
        IsJoinStopped old (map f xs) new (record { done = done; fault = fault })
    stops new fault refused e =
        record {
          merged = subst (λ (h : Holding). AreMerged old (take done (map f xs)) h) (sym e) w;
          refused = (f x, next, subst (λ (h : Holding). IsItemRefused h (f x) fault) (sym e) refused);
        }

  pub ends : length xs ≤ i → AreMerged old (map f xs) m
  ends all = subst (λ l. AreMerged old l m) (take_all done (map f xs) (omega (arith, length-map xs f, all, at))) w

-- ---- a stop among the first ones, or among the others
take_front : {X : Type 0} (n : ℕ) (xs ys : List X) → n < length xs → take n (xs ++ ys) ≡ take n xs
take_front n [] ys w = absurd (omega (arith, w))
take_front zero (x ∷ xs) ys w = refl
take_front (suc n) (x ∷ xs) ys w = ap (λ l. x ∷ l) (take_front n xs ys (omega (arith, w)))

pub get_front : {X : Type 0} (n : ℕ) (xs ys : List X) → n < length xs → slice_get (xs ++ ys) n ≡ slice_get xs n
get_front n [] ys w = absurd (omega (arith, w))
get_front zero (x ∷ xs) ys w = refl
get_front (suc n) (x ∷ xs) ys w = get_front n xs ys (omega (arith, w))

none_and : (n : ℕ) → 0 + n ≡ n
none_and n = omega arith

take_back : {X : Type 0} (n : ℕ) (xs ys : List X) → take (length xs + n) (xs ++ ys) ≡ xs ++ take n ys
take_back n [] ys = ap (λ k. take k ys) (none_and n)
take_back n (x ∷ xs) ys = ap (λ k. take k (x ∷ (xs ++ ys))) (one_and (length xs) n) ∙ ap (λ l. x ∷ l) (take_back n xs ys)

pub get_back : {X : Type 0} (n : ℕ) (xs ys : List X) → slice_get (xs ++ ys) (length xs + n) ≡ slice_get ys n
get_back n [] ys = ap (slice_get ys) (none_and n)
get_back n (x ∷ xs) ys = ap (slice_get (x ∷ (xs ++ ys))) (one_and (length xs) n) ∙ get_back n xs ys

pub stops_first : (old : Holding) (xs ys : List Item) (new : Holding) (stop : Stop) → IsJoinStopped old xs new stop →
    IsJoinStopped old (xs ++ ys) new stop
stops_first old xs ys new stop s =
    let within = (one_more stop.done xs s.refused.0 s.refused.1).0 in
    record {
      merged = subst (λ l. AreMerged old l new) (sym (take_front stop.done xs ys within)) s.merged;
      refused = (s.refused.0, get_front stop.done xs ys within ∙ s.refused.1, s.refused.2);
    }

pub stops_later : (old : Holding) (xs ys : List Item) (m new : Holding) (n done : ℕ) (fault : JoinFault) → AreMerged old xs m →
    n ≡ length xs →
    IsJoinStopped m ys new (record { done = done; fault = fault }) →
    IsJoinStopped old (xs ++ ys) new (record { done = n + done; fault = fault })
stops_later old xs ys m new n done fault w e s =
    subst (λ k. IsJoinStopped old (xs ++ ys) new (record { done = k + done; fault = fault })) (sym e) (record {
      merged = subst (λ l. AreMerged old l new) (sym (take_back done xs ys)) (merged_both old xs (take done ys) m new w s.merged);
      refused = (s.refused.0, get_back done xs ys ∙ s.refused.1, s.refused.2);
    })

pub length_items : {X : Type 0} (f : X → Item) (xs : List X) → length xs ≡ length (map f xs)
length_items f xs = sym (length-map xs f)

-- ---- what a join says of all
pub merged_then : {A : Type 0} (r : Result A Stop) (old : Holding) (xs ys : List Item) (m new : Holding) → AreMerged old xs m →
    OnOk r (AreMerged m ys new) → OnOk r (AreMerged old (xs ++ ys) new)
merged_then (Ok a) old xs ys m new v w = merged_both old xs ys m new v w
merged_then (Err stop) old xs ys m new v w = tt

pub stopped_after : {A : Type 0} (r : Result A Stop) (ys : List Item) (m new : Holding) (n : ℕ) → IfErr r (JoinStopsAfter n m ys new) →
    (old : Holding) (xs : List Item) →
    AreMerged old xs m → n ≡ length xs → IfErr r (IsJoinStopped old (xs ++ ys) new)
stopped_after (Ok a) ys m new n s old xs w e = tt
stopped_after (Err stop) ys m new n s old xs w e = s old xs w e

pub join_if_ok : {A : Type 0} (r : Result A Stop) (old : Holding) (items : List Item) (new : Holding) → IsSound old →
    OnOk r (AreMerged old items new) → OnOk r (IsTop (held_items new) (held_items old ++ items))
join_if_ok (Ok a) old items new sound w = all_join old items new sound w
join_if_ok (Err stop) old items new sound w = tt

pub join_if_stopped : {A : Type 0} (r : Result A Stop) (old : Holding) (items : List Item) (new : Holding) → IsSound old →
    IfErr r (IsJoinStopped old items new) →
    IfErr r (λ (stop : Stop). IsTop (held_items new) (held_items old ++ take stop.done items))
join_if_stopped (Ok a) old items new sound w = tt
join_if_stopped (Err stop) old items new sound w = all_join old (take stop.done items) new sound w.merged

all_sound : (old : Holding) (items : List Item) (new : Holding) → IsSound old → AreMerged old items new → IsSound new
all_sound old [] new sound w = subst IsSound (sym w) sound
all_sound old (i ∷ items) new sound w = all_sound (after_item old i (Ok w.0)) items new (item_sound old sound i w.0 w.1) w.2

pub sound_then : {A : Type 0} (r : Result A Stop) (old : Holding) (items : List Item) (new : Holding) → IsSound old →
    OnOk r (AreMerged old items new) → IfErr r (IsJoinStopped old items new) → IsSound new
sound_then (Ok a) old items new sound w s = all_sound old items new sound w
sound_then (Err stop) old items new sound w s = all_sound old (take stop.done items) new sound s.merged
