-- Maps that took different items, and what they hold.
use Rattle.std.proofs.Common.{◌≡◌, ℕ, ◌<◌, ◌≤◌, Bool, IsTrue, Some, true, false, cond, List, [], ◌∷◌, ◌++◌, codes, Option, Ok, refl, ap}
use Rattle.std.proofs.Common.{sym, ◌∙◌, subst, inl, inr, ◌⊎◌, arith, Contains}
use Rattle.std.proofs.lemmas.List.{append-nil}
use Rattle.std.specs.FinMap.{get-empty, len-empty}
use Rattle.std.specs.Option.{option_and_then}
use Rattle.std.proofs.lemmas.List.Elements.{All-contains_itself, All-weaker}
use Rattle.ds_names.specs.Endpoint.{endpoint_of}
use Rattle.ds_names.specs.Key.{name_cmp, key_cmp, label_key}
use Rattle.ds_names.specs.Name.{is_name_byte, rs_name}
use Rattle.ds_entry.specs.Change.{ChangeRecord, change_of}
use Rattle.ds_entry.specs.Floor.{floor_of}
use Rattle.ds_entry.specs.Item.{IsItem, passes as item_passes}
use Rattle.ds_entry.specs.ItemCovers.{covers}
use Rattle.ds_entry.specs.Left.{endpoint_of_value, value_of}
use Rattle.ds_entry.specs.Under.{under}
use Rattle.ds_entry.specs.declared.body.Value.TheVariants.{Label, U32 as Number}
use Rattle.ds_entry.specs.declared.body.Body.TheVariants.{Put}
use Rattle.ds_entry.specs.declared.floor.Floor.{Floor}
use Rattle.ds_entry.specs.declared.item.Item.{Item}
use Rattle.ds_entry.specs.declared.item.Item.TheVariants.{Change as Changed}
use Rattle.ds_entry.proofs.Members.{Contains-nil, Contains-single, Contains-cons, Contains-head, Contains-tail}
use Rattle.ds_join.specs.ItemTop.{CoversAll, IsTop}
use Rattle.ds_join.specs.declared.merge.Merge.TheVariants.{Taken}
use Rattle.ds_held.specs.Held.{Holding, held_items, nothing_held, is_below, IsSound}
use Rattle.ds_held.specs.Join.{AreMerged}
use Rattle.ds_held.specs.Limits.{larger}
use Rattle.ds_held.specs.Merge.{AnswersFor, AnswersNew, MergeAnswer, UnlessVoid, after_merge}
use Rattle.ds_held.specs.Raise.{AnswersFloor, RaiseAnswer, after_raise}
use Rattle.ds_held.specs.Held as holdings
use Rattle.ds_held.proofs.HeldLemmas.{is_held}
use Rattle.ds_held.proofs.JoinLemmas.{all_join}
use Rattle.ds_held.proofs.MergeLemmas.{merge_joins}
use Rattle.ds_feed.specs.Feed.{all_keys}
use Rattle.ds_machine.specs.Reached.{AreExact}
use Rattle.ds_pattern.specs.declared.query.Query.{Query}
use Rattle.ds_pattern.specs.Under.{is_under}
use Rattle.ds_submap.specs.Map.{IsMap, SubMapRecord, empty_map, endpoint_of_label, map_of}
use Rattle.ds_replica.specs.Rows.{ended, irq, one, other}
use Rattle.ds_replica.proofs.SentLemmas.{Contains-under, Contains-from_under}
use Rattle.ds_replica.proofs.HolderPremiseLemmas.{covers_one}
use Rattle.holders.specs.Agree.{CoverEachOther}
use Rattle.holders.specs.Holding.{MapKnows, MapOf}
use Rattle.holders.specs.NoOlder.{NamesNoOlder, NoneIsNewer}
use Rattle.holders.specs.Premises.{CoveringIsNeeded, ExactIsNeeded, LabelsNeedCovering, MapsAgree, PremisesHold}
use Rattle.holders.proofs.KnownLemmas.{map_top, nothing_sound}

-- The empty holding of a map.
abbrev bare : Holding
bare = nothing_held larger

-- The entry with this number.
abbrev entry_of : ℕ → ChangeRecord
entry_of n = change_of irq (codes "eth0") (record { epoch = 3; seq = 0 }) (Put (Number n))

-- Everything that the driver published is void.
abbrev last_floor : Floor
last_floor = floor_of (codes "eth0") 3

-- ---- a map that takes items which are merged

module _ (own : Query) (items : List Item) (new : Holding) (passing : under (is_under own) items ≡ items)
    (merged : AreMerged bare items new) where
  abbrev taking : SubMapRecord
  taking = map_of own new

  pub taking_knows : MapKnows taking items
  taking_knows = record {
    takes = items ∷ [];
    path = (
      taking,
      record {
        joined = subst (λ (l : List Item). IsTop (held_items new) (held_items bare ++ l)) (sym passing)
            (all_join bare items new nothing_sound merged);
        query = refl;
      },
      refl,
    );
    known_is = sym (append-nil (under (is_under own) items) ∙ passing);
  }

-- A map that knows an item covered by no other item that it knows holds the item.
alone_held : (map : SubMapRecord) (known : List Item) (i : Item) → MapKnows map known → Contains known i →
    ((j : Item) → Contains known j → covers j i ≡ true → j ≡ i) → Contains (held_items map.held) i
alone_held map known i k h only =
    let t = map_top map known k in
    let j = t.greatest i h in
    subst (λ (x : Item). Contains (held_items map.held) x) (only j.0 (t.among j.0 j.1) j.2) j.1

-- ---- a map that takes one change

module _ (own : Query) (c : ChangeRecord) (passes : is_under own c.key ≡ true) where
  change_answer : MergeAnswer bare c (Ok Taken)
  change_answer =
      subst (λ (o : Option ChangeRecord). AnswersFor o (holdings.is_void_at bare c) (holdings.held_count bare) 4096 c (Ok Taken))
      (sym (get-empty key_cmp c.key))
      (subst (λ (o : Option ℕ). UnlessVoid (is_below o c) (AnswersNew (holdings.held_count bare) 4096 (Ok Taken)) (Ok Taken))
      (sym (get-empty name_cmp c.owner))
      (subst (λ (k : ℕ). k < 4096) (sym (len-empty key_cmp ChangeRecord)) (omega arith)))

  abbrev with_change : Holding
  with_change = after_merge bare c (Ok Taken)

  change_passes : under (is_under own) (Changed c ∷ []) ≡ Changed c ∷ []
  change_passes = ap (λ (b : Bool). cond b (Changed c ∷ []) []) passes

  abbrev pub change_map : SubMapRecord
  change_map = map_of own with_change

  pub change_knows : MapKnows change_map (Changed c ∷ [])
  change_knows = taking_knows own (Changed c ∷ []) with_change change_passes (Taken, change_answer, refl)

  change_held : Contains (held_items with_change) (Changed c)
  change_held = alone_held change_map (Changed c ∷ []) (Changed c) change_knows (Contains-head (Changed c) [])
      (λ j h e. Contains-single (Changed c) j h)

  -- What it holds is the change.
  change_only : (i : Item) → Contains (held_items with_change) i → i ≡ Changed c
  change_only i h = Contains-single (Changed c) i ((map_top change_map (Changed c ∷ []) change_knows).among i h)

  change_sound : IsSound with_change
  change_sound = (merge_joins bare nothing_sound c (Ok Taken) change_answer).sound_after

  pub change_is_map : IsMap change_map
  change_is_map = record {
    limits = refl;
    sound = change_sound;
    under = All-weaker (Contains (held_items with_change)) (λ i. IsTrue (item_passes (is_under own) i))
        (λ i h. subst (λ (x : Item). IsTrue (item_passes (is_under own) x)) (sym (change_only i h)) passes) (held_items with_change)
        (All-contains_itself (held_items with_change));
  }

-- ---- a map that takes nothing

nothing_knows : (own : Query) → MapKnows (empty_map own) []
nothing_knows own = record { takes = []; path = refl; known_is = refl }

nothing_there : (own : Query) (i : Item) → Contains (held_items (nothing_held larger)) i → ⊥
nothing_there own i h = let k = (map_top (empty_map own) [] (nothing_knows own)).among i h in Contains-nil i k

-- ---- the two premises

pub numbers_differ : one ≡ other → ⊥
numbers_differ e = let same : entry_of 9 ≡ entry_of 11 = cc in let b : Put (Number 9) ≡ Put (Number 11) =
    ap (λ (c : ChangeRecord). c.body) same in cc

pub exact_is_needed : ExactIsNeeded
exact_is_needed own passes law =
    let first = change_map own (entry_of 9) passes in
    let second = change_map own (entry_of 11) passes in
    let same : under all_keys (held_items first.held) ≡ under all_keys (held_items second.held) =
    law all_keys (MapOf first) (MapOf second) (one ∷ []) (other ∷ []) (change_knows own (entry_of 9) passes)
    (change_knows own (entry_of 11) passes)
    (record { there = covers_one other one refl; here = covers_one one other refl }) in
    let here : Contains (under all_keys (held_items first.held)) one =
    Contains-under all_keys (held_items first.held) one (change_held own (entry_of 9) passes) refl in
    let there = Contains-from_under all_keys (held_items second.held) one (subst (λ (l : List Item). Contains l one) same here) in
    numbers_differ (change_only own (entry_of 11) passes one there.0)

pub one_exact : AreExact (one ∷ [])
one_exact i j h k e f = Contains-single one i h ∙ sym (Contains-single one j k)

pub covering_is_needed : CoveringIsNeeded
covering_is_needed own passes law =
    let second = change_map own (entry_of 9) passes in
    let same : under all_keys (held_items bare) ≡ under all_keys (held_items second.held) =
    law all_keys (MapOf (empty_map own)) (MapOf second) [] (one ∷ []) (nothing_knows own) (change_knows own (entry_of 9) passes) one_exact
    (λ i h. absurd (Contains-nil i h)) in
    let there : Contains (under all_keys (held_items second.held)) one =
    Contains-under all_keys (held_items second.held) one (change_held own (entry_of 9) passes) refl in
    let here = Contains-from_under all_keys (held_items bare) one (subst (λ (l : List Item). Contains l one) (sym same) there) in
    nothing_there own one here.0

-- ---- a label that is older

abbrev pub label_of : ℕ → ChangeRecord
label_of g = change_of (label_key (codes "eth0")) rs_name (record { epoch = g; seq = 0 }) (Put (Label (endpoint_of g 17)))

label_is : (g : ℕ) → 0 < g → g < 5 → IsItem (Changed (label_of g))
unfolding is_name_byte
label_is g some few = record {
  name = record { some = omega arith; limit = omega arith; allowed = refl };
  owner = record { some = omega arith; limit = omega arith; allowed = refl };
  epoch = omega (arith, some, few);
  seq = omega arith;
  body = record { generation = omega (arith, some, few); slot = omega arith };
  kind = refl;
  rule = record { owner = refl; name = λ e. (let n : codes "eth0" ≡ codes "rs" = e in cc); epoch = some; body = (refl, refl) };
}

pub single_is : (g : ℕ) → 0 < g → g < 5 → (i : Item) → Contains (Changed (label_of g) ∷ []) i → IsItem i
single_is g some few i h = subst IsItem (sym (Contains-single (Changed (label_of g)) i h)) (label_is g some few)

-- The map's label is older than the other one.
pub label_is_older : (own : Query) (passes : is_under own (label_key (codes "eth0")) ≡ true)
    → NamesNoOlder (Changed (label_of 3) ∷ []) (Changed (label_of 4) ∷ []) (codes "eth0")
    (endpoint_of_label (change_map own (label_of 3) passes).held (codes "eth0")) → ⊥
label_is_older own passes no_older =
    let map = change_map own (label_of 3) passes in
    let there : holdings.held_for map.held (label_key (codes "eth0")) ≡ Some (label_of 3) =
    is_held map.held (change_sound own (label_of 3) passes) (Changed (label_of 3)) (change_held own (label_of 3) passes) in
    let named : endpoint_of_label map.held (codes "eth0") ≡ Some (endpoint_of 3 17) =
    ap (λ (o : Option ChangeRecord). option_and_then endpoint_of_value (option_and_then value_of o)) there in
    let none : NoneIsNewer (Changed (label_of 4) ∷ []) (codes "eth0") (endpoint_of 3 17) =
    subst (NamesNoOlder (Changed (label_of 3) ∷ []) (Changed (label_of 4) ∷ []) (codes "eth0")) named no_older in
    let low : 4 ≤ 3 = none.newest (label_of 4) (Contains-head (Changed (label_of 4)) []) refl in
    omega (arith, low)

pub labels_need_covering : LabelsNeedCovering
labels_need_covering own passes law =
    label_is_older own passes
    (law (change_map own (label_of 3) passes) (Changed (label_of 3) ∷ []) (Changed (label_of 4) ∷ []) (codes "eth0")
    (change_is_map own (label_of 3) passes) (change_knows own (label_of 3) passes)
    (single_is 3 (omega arith) (omega arith)) (single_is 4 (omega arith) (omega arith)) passes)

-- ---- both hold

floor_answer : RaiseAnswer bare last_floor (Ok Taken)
floor_answer =
    subst (λ (o : Option ℕ). AnswersFloor o (holdings.floor_count bare) 3 (Ok Taken)) (sym (get-empty name_cmp (codes "eth0")))
    (subst (λ (k : ℕ). k < 64) (sym (len-empty name_cmp ℕ)) (omega arith))

abbrev both : List Item
both = one ∷ ended ∷ []

pub both_cases : (i : Item) → Contains (one ∷ ended ∷ ended ∷ []) i → (i ≡ one) ⊎ (i ≡ ended)
both_cases i h = elim (Contains-cons one (ended ∷ ended ∷ []) i h) [
  | inl e ↦ inl e
  | inr k ↦ elim (Contains-cons ended (ended ∷ []) i k) [ inl e ↦ inr e | inr l ↦ inr (Contains-single ended i l) ]
]

pub both_exact : AreExact (one ∷ ended ∷ ended ∷ [])
both_exact i j h k e f = by_cases (both_cases i h) (both_cases j k)
  where
    forth : (x y : Item) → i ≡ x → j ≡ y → covers y x ≡ true
    forth x y p q = subst (λ z. covers z x ≡ true) q (subst (λ z. covers j z ≡ true) p e)

    back : (x y : Item) → i ≡ x → j ≡ y → covers x y ≡ true
    back x y p q = subst (λ z. covers x z ≡ true) q (subst (λ z. covers z j ≡ true) p f)

    by_cases : (i ≡ one) ⊎ (i ≡ ended) → (j ≡ one) ⊎ (j ≡ ended) → i ≡ j
    by_cases (inl p) (inl q) = p ∙ sym q
    by_cases (inl p) (inr q) = absurd (let n : false ≡ true = back one ended p q in cc)
    by_cases (inr p) (inl q) = absurd (let n : false ≡ true = forth ended one p q in cc)
    by_cases (inr p) (inr q) = p ∙ sym q

pub both_cover : CoversAll (ended ∷ []) both
both_cover i h = (ended, Contains-head ended [], by_case (Contains-cons one (ended ∷ []) i h))
  where
    by_case : (i ≡ one) ⊎ Contains (ended ∷ []) i → covers ended i ≡ true
    by_case (inl e) = subst (λ (x : Item). covers ended x ≡ true) (sym e) refl
    by_case (inr k) = subst (λ (x : Item). covers ended x ≡ true) (sym (Contains-single ended i k)) refl

pub floor_covers : CoverEachOther all_keys both (ended ∷ [])
floor_covers = record {
  there = both_cover;
  here = λ i h. (
    ended,
    Contains-tail one (ended ∷ []) ended (Contains-head ended []),
    subst (λ (x : Item). covers ended x ≡ true) (sym (Contains-single ended i h)) refl,
  );
}

module _ (own : Query) (passes : is_under own irq ≡ true) where
  both_pass : under (is_under own) both ≡ both
  both_pass = ap (λ (b : Bool). cond b both (ended ∷ [])) passes

  abbrev both_map : SubMapRecord
  both_map = map_of own (after_raise (with_change own (entry_of 9) passes) last_floor (Ok Taken))

  abbrev floor_map : SubMapRecord
  floor_map = map_of own (after_raise bare last_floor (Ok Taken))

  both_know : MapKnows both_map both
  both_know = taking_knows own both (after_raise (with_change own (entry_of 9) passes) last_floor (Ok Taken)) both_pass
      (Taken, change_answer own (entry_of 9) passes, (Taken, floor_answer, refl))

  floor_knows : MapKnows floor_map (ended ∷ [])
  floor_knows = taking_knows own (ended ∷ []) (after_raise bare last_floor (Ok Taken)) refl (Taken, floor_answer, refl)

  maps_agree : MapsAgree own
  maps_agree = record {
    first = both_map;
    second = floor_map;
    queries = (refl, refl);
    first_knows = both_know;
    second_knows = floor_knows;
    exact = both_exact;
    cover = floor_covers;
    held = alone_held both_map both ended both_know (Contains-tail one (ended ∷ []) ended (Contains-head ended [])) only;
  }
    where
      only : (j : Item) → Contains both j → covers j ended ≡ true → j ≡ ended
      only j h e = elim (Contains-cons one (ended ∷ []) j h) [
        | inl p ↦ absurd (let n : false ≡ true = subst (λ (x : Item). covers x ended ≡ true) p e in cc)
        | inr k ↦ Contains-single ended j k
      ]

pub premises_hold : PremisesHold
premises_hold own passes = maps_agree own passes
