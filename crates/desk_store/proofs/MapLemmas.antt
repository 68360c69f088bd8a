-- What comes into a map by the items of a check.
use Rattle.std.proofs.Common.{◌≡◌, Bool, true, false, List, ◌++◌, Contains, refl, sym, subst, inl, inr}
use Rattle.std.proofs.lemmas.List.Kept.{IsStrictlySortedBy-filter}
use Rattle.std.proofs.lemmas.List.Elements.{Contains-append_left, Contains-append_right, Contains-append_cases}
use Rattle.ds_entry.specs.Item.{item_cmp, passes}
use Rattle.ds_entry.specs.ItemCovers.{covers}
use Rattle.ds_entry.specs.Under.{under}
use Rattle.ds_entry.specs.declared.item.Item.{Item}
use Rattle.ds_entry.proofs.ItemLemmas.{covers-trans, covers-query, items_total}
use Rattle.ds_entry.proofs.Members.{Contains-filter, Contains-from_filter}
use Rattle.ds_entry.proofs.OrderedLemmas.{same_members}
use Rattle.ds_join.specs.ItemTop.{IsTop, IsPartOf}
use Rattle.ds_join.proofs.ItemTopLemmas.{held_apart}
use Rattle.ds_pattern.specs.declared.query.Query.{Query}
use Rattle.ds_pattern.specs.Under.{is_under}
use Rattle.ds_machine.specs.Subscription.{is_unseen}
use Rattle.ds_machine.specs.Reached.{AreExact}
use Rattle.desk_store.proofs.ShownLemmas.{shown_for, no_more_unseen, under_part}

-- an accepted item that covers a held one is that one
pub covers_held : (accepted held : List Item) → AreExact accepted → IsTop held accepted → (i j : Item) → Contains held i →
    Contains accepted j → covers j i ≡ true → i ≡ j
covers_held accepted held exact t i j h k q =
    let e = t.greatest j k in
    let same : e.0 ≡ i = held_apart held accepted t i e.0 h e.1 (covers-trans e.0 j i e.2 q) in
    exact i j (t.among i h) k q (subst (λ (z : Item). covers z j ≡ true) same e.2)

-- of what is held, `old` had what was shown; `items` are some of the rest, and `new` is the top of both
module _ (accepted held : List Item) (exact : AreExact accepted) (top : IsTop held accepted) (query : Query)
    (shown old items new : List Item)
    (has : (i : Item) → Contains held i → passes (is_under query) i ≡ true → is_unseen query shown i ≡ false → Contains old i)
    (given : IsPartOf old (under (is_under query) accepted)) (part : IsPartOf items held)
    (t : IsTop new (old ++ under (is_under query) items)) where
  from_accepted : IsPartOf (old ++ under (is_under query) items) (under (is_under query) accepted)
  from_accepted i h = elim (Contains-append_cases old (under (is_under query) items) i h) [
    | inl k ↦ given i k
    | inr k ↦ under_part query items accepted (λ x m. top.among x (part x m)) i k
  ]

  -- a held item that reaches the map is in it then
  stays : (i : Item) → Contains held i → Contains (old ++ under (is_under query) items) i → Contains new i
  stays i h k =
      let e = t.greatest i k in
      let there = (Contains-from_filter (passes (is_under query)) accepted e.0 (from_accepted e.0 (t.among e.0 e.1))).0 in
      subst (λ (x : Item). Contains new x) (sym (covers_held accepted held exact top i e.0 h there e.2)) e.1

  old_stays : (i : Item) → Contains held i → passes (is_under query) i ≡ true → is_unseen query shown i ≡ false → Contains new i
  old_stays i h u e = stays i h (Contains-append_left old (under (is_under query) items) i (has i h u e))

  item_stays : (i : Item) → Contains held i → passes (is_under query) i ≡ true → Contains items i → Contains new i
  item_stays i h u k = stays i h (Contains-append_right old (under (is_under query) items) i
      (Contains-filter (passes (is_under query)) items i k u))

  pub new_has : (i : Item) → Contains held i → passes (is_under query) i ≡ true → is_unseen query (shown ++ items) i ≡ false →
      Contains new i
  new_has i h u e =
      let d = shown_for query (shown ++ items) i u e in
      elim (Contains-append_cases shown items d.0 d.1) [
        | inl k ↦ old_stays i h u (no_more_unseen query shown i d.0 k d.2)
        | inr k ↦
            (let same : d.0 ≡ i = held_apart held accepted top i d.0 h (part d.0 k) d.2 in
            item_stays i h u (subst (λ (x : Item). Contains items x) same k))
      ]

  pub new_given : IsPartOf new (under (is_under query) accepted)
  new_given i h = from_accepted i (t.among i h)

  -- where all that was unseen came
  module _ (all : (i : Item) → Contains held i → is_unseen query shown i ≡ true → Contains items i) where
    comes : (i : Item) → Contains held i → passes (is_under query) i ≡ true → Contains new i
    comes i h u = by_test (is_unseen query shown i) refl
      where
        by_test : (b : Bool) → is_unseen query shown i ≡ b → Contains new i
        by_test true e = item_stays i h u (all i h e)
        by_test false e = old_stays i h u e

    is_held : (i : Item) → Contains new i → Contains (under (is_under query) held) i
    is_held i h =
        let from = Contains-from_filter (passes (is_under query)) accepted i (new_given i h) in
        let d = top.greatest i from.0 in
        let u : passes (is_under query) d.0 ≡ true = covers-query (is_under query) d.0 i d.2 from.1 in
        let same : d.0 ≡ i = held_apart new (old ++ under (is_under query) items) t i d.0 h (comes d.0 d.1 u) d.2 in
        subst (λ (x : Item). Contains (under (is_under query) held) x) same (Contains-filter (passes (is_under query)) held d.0 d.1 u)

    pub new_is_all : new ≡ under (is_under query) held
    new_is_all =
        same_members item_cmp items_total new (under (is_under query) held) t.in_order
        (IsStrictlySortedBy-filter item_cmp (passes (is_under query)) held top.in_order) is_held
        (λ i h. (let from = Contains-from_filter (passes (is_under query)) held i h in comes i from.0 from.1))
