-- What follows for holders in a world that an account fits.
use Rattle.std.proofs.Common.{◌≡◌, ℕ, Bool, true, List, [], Option, Some, None, refl, ap, sym, ◌∙◌, subst, inl, inr, Contains}
use Rattle.std.specs.List.{slice_get}
use Rattle.ds_names.specs.declared.key.Key.{Key}
use Rattle.ds_entry.specs.Item.{passes, item_cmp}
use Rattle.ds_entry.specs.ItemCovers.{covers}
use Rattle.ds_entry.specs.declared.item.Item.{Item}
use Rattle.ds_entry.specs.declared.item.Item.TheVariants.{Change as Changed}
use Rattle.ds_entry.proofs.Members.{Contains-nil, Contains-head, Contains-from_filter, Contains-from_map}
use Rattle.ds_entry.proofs.OrderedLemmas.{same_members}
use Rattle.ds_entry.proofs.ItemLemmas.{covers-trans, covers-query, items_total}
use Rattle.ds_join.specs.ItemTop.{IsTop, IsPartOf, CoversAll}
use Rattle.ds_join.proofs.ItemTopLemmas.{held_apart, top_of_nothing, top_of_same, void_isnt_held}
use Rattle.ds_feed.specs.Feed.{position}
use Rattle.ds_pattern.specs.Under.{is_under}
use Rattle.ds_replica.specs.Sent.{Sent}
use Rattle.ds_replica.proofs.SentLemmas.{from_stood, Contains-under, Contains-from_under}
use Rattle.ds_replica.proofs.HoldingLemmas.{top_under_query}
use Rattle.ds_replica.proofs.HoldingLemmas as wholes
use Rattle.ds_replica.proofs.WholeLemmas.{more_is_whole, earlier_is_whole}
use Rattle.ds_replica.proofs.LabelLemmas as labels
use Rattle.ds_machine.specs.Reached.{AreExact}
use Rattle.ds_machine.specs.State.{State, held}
use Rattle.ds_machine.proofs.ReachedLemmas.{held_is_top}
use Rattle.ds_replica.specs.declared.event.Side.{Side}
use Rattle.ds_replica.specs.declared.event.Holder.{Holder}
use Rattle.ds_replica.specs.declared.event.Holder.TheVariants.{Store, Map}
use Rattle.ds_replica.specs.World.{MapState, World, store_at, map_held, held_by}
use Rattle.ds_replica.specs.Known.{MapAccount, Account, store_of, known_by, map_known, known_at}
use Rattle.ds_replica.specs.Fits.{FitsMap, FitsMessage, Fits}
use Rattle.ds_replica.specs.Headline.{EqualWhereKnown, EqualOverEvents, IsAbout, NothingClashesInWorlds}
use Rattle.ds_replica.specs.CaughtUp.{HasAll, WholeIsAll, HoldsTheStoresInWorlds, HoldsAtLeastInWorlds, LabelsAreNewestInWorlds}
use Rattle.ds_replica.specs.Turns.{NothingBelowFloorsInWorlds}
use Rattle.ds_replica.proofs.ZipLemmas.{Contains-at, AllZip-at, AllZip-at_left, AllZip-none}
use Rattle.ds_replica.proofs.FitLemmas.{store_fits, own_fits}
use Rattle.ds_replica.proofs.StartLemmas.{account_fits_at_start}
use Rattle.ds_replica.proofs.EventLemmas.{events_fit}
use Rattle.ds_entry.specs.Under.{under, entries_of}

module _ (account : Account) (w : World) (f : Fits account w) where
  -- each holder holds the top of what it knows
  pub top_at : (h : Holder) → IsTop (held_by w h) (known_at account h)
  top_at (Store side) = (store_fits account w side f).top
  top_at (Map j) = by_map (slice_get account.maps j) refl
    where
      by_map : (o : Option MapAccount) → slice_get account.maps j ≡ o → IsTop (held_by w (Map j)) (known_at account (Map j))
      by_map None e =
          subst (λ (x : Option MapState). IsTop (map_held x) (known_at account (Map j)))
          (sym (AllZip-none (FitsMap account.brought) account.maps w.maps j f.maps e))
          (subst (λ (x : Option MapAccount). IsTop [] (map_known x)) (sym e) top_of_nothing)
      by_map (Some a) e =
          let m = AllZip-at_left (FitsMap account.brought) account.maps w.maps j a f.maps e in
          subst (λ (x : Option MapState). IsTop (map_held x) (known_at account (Map j))) (sym m.1)
          (subst (λ (x : Option MapAccount). IsTop m.0.held (map_known x)) (sym e) m.2.map.top)

  map_within : (a : MapAccount) (m : MapState) → FitsMap account.brought a m → IsPartOf (known_by a) account.brought
  map_within a m g i h =
      let s = from_stood _ i h in
      g.within s.0 (Contains-from_filter (λ (x : Sent). passes (is_under a.query) x.item) a.taken s.0 s.1).0 i s.2

  -- and all that it knows was brought in
  pub known_within : (h : Holder) → IsPartOf (known_at account h) account.brought
  known_within (Store side) = (store_fits account w side f).within
  known_within (Map j) = by_map (slice_get account.maps j) refl
    where
      by_map : (o : Option MapAccount) → slice_get account.maps j ≡ o → IsPartOf (known_at account (Map j)) account.brought
      by_map None e i h = absurd (let n = subst (λ (x : Option MapAccount). Contains (map_known x) i) e h in Contains-nil i n)
      by_map (Some a) e i h =
          let m = AllZip-at_left (FitsMap account.brought) account.maps w.maps j a f.maps e in
          map_within a m.0 m.2 i (subst (λ (x : Option MapAccount). Contains (map_known x) i) e h)

  pub held_within : (h : Holder) → IsPartOf (held_by w h) account.brought
  held_within h i k = known_within h i ((top_at h).among i k)

  -- each item of a message was brought in
  pub message_within : (sent : List Sent) (items : List Item) → FitsMessage account.brought sent items → IsPartOf items account.brought
  message_within sent items m i h =
      let s = Contains-from_map (λ (x : Sent). x.item) sent i (subst (λ l. Contains l i) (sym m.items_are) h) in
      subst (Contains account.brought) s.2 (m.within s.0 s.1 s.0.item ((m.sent s.0 s.1).among s.0.item (Contains-head s.0.item [])))

-- ---- one top of what is known under a query
-- all that was brought in is exact, and what is known is part of it
module _ (query : Key → Bool) (known brought : List Item) (exact : AreExact brought) (within : IsPartOf known brought) where
  -- what one top has the other has too: each has an item that covers it, which it covers as well
  in_other : (one other : List Item) → IsTop one (under query known) → IsTop other (under query known) → IsPartOf one other
  in_other one other t u i h =
      let j = u.greatest i (t.among i h) in
      let k = t.greatest j.0 (u.among j.0 j.1) in
      let itself : k.0 ≡ i = held_apart one (under query known) t i k.0 h k.1 (covers-trans k.0 j.0 i k.2 j.2) in
      let back : covers i j.0 ≡ true = subst (λ (x : Item). covers x j.0 ≡ true) itself k.2 in
      subst (Contains other) (exact j.0 i (brought_in j.0 (u.among j.0 j.1)) (brought_in i (t.among i h)) back j.2) j.1
    where
      brought_in : (x : Item) → Contains (under query known) x → Contains brought x
      brought_in x m = within x (Contains-from_under query known x m).0

  one_top : (one other : List Item) → IsTop one (under query known) → IsTop other (under query known) → one ≡ other
  one_top one other t u =
      same_members item_cmp items_total one other t.in_order u.in_order (in_other one other t u) (in_other other one u t)

-- ---- agreement
pub equal_where_known : EqualWhereKnown
equal_where_known account w query h i f exact same =
    let known = known_at account h in
    let one = top_under_query query known (held_by w h) (top_at account w f h) in
    let other = top_under_query query (known_at account i) (held_by w i) (top_at account w f i) in
    let of_known =
    top_of_same (under query (held_by w i)) (under query (known_at account i)) (under query known) same.here same.there other in
    let equal =
    one_top query known account.brought exact (known_within account w f h) (under query (held_by w h)) (under query (held_by w i)) one
    of_known in
    (equal, ap entries_of equal)

pub equal_over_events : EqualOverEvents
equal_over_events a b limits w events query h i l happen exact same =
    equal_where_known _ w query h i (events_fit _ _ w events (account_fits_at_start a b limits l) happen) exact same

-- ---- nothing clashes
about_within : (account : Account) (w : World) → Fits account w → (i : Item) → IsAbout w i → Contains account.brought i
about_within account w f i (inl h) = held_within account w f h.0 i h.1
about_within account w f i (inr m) =
    let k = Contains-at w.messages m.0 m.1 in
    let s = AllZip-at (FitsMessage account.brought) account.messages w.messages k.0 m.0 f.messages k.1 in
    message_within account w f s.0 m.0 s.2 i m.2

pub nothing_clashes : NothingClashesInWorlds
nothing_clashes account w c d f n h k e =
    let x = about_within account w f (Changed c) h in
    let y = about_within account w f (Changed d) k in
    (n.one_owner c d x y e, λ v. n.one_change c d x y e v)

-- ---- catch-up
module _ (account : Account) (w : World) (j : ℕ) (m : MapAccount) (side : Side) (f : Fits account w) (all : HasAll account j m side) where
  abbrev s : State
  s = (store_of account side).state

  same : (store_of account side).state ≡ store_at w side
  same = (store_fits account w side f).state_is

  at : (x : MapState) × (slice_get w.maps j ≡ Some x) × FitsMap account.brought m x
  at = AllZip-at_left (FitsMap account.brought) account.maps w.maps j m f.maps all.there

  map_is : held_by w (Map j) ≡ at.0.held
  map_is = ap map_held at.1

  pub least : CoversAll (held_by w (Map j)) (under (is_under m.query) (held_by w (Store side)))
  least =
      let own = own_fits account w side f in
      let covers = wholes.holds_at_least s.feed (is_under m.query) m.taken (held s) at.0.held (held_is_top s own.reached) at.2.map
      all.whole in
      subst (λ (x : State). CoversAll (held_by w (Map j)) (under (is_under m.query) (held x))) same
      (subst (λ l. CoversAll l (under (is_under m.query) (held s))) (sym map_is) covers)

  -- what the map holds is under its query
  held_passes : (i : Item) → Contains (held_by w (Map j)) i → passes (is_under m.query) i ≡ true
  held_passes i h =
      let own : Contains (under (is_under m.query) at.0.held) i =
      subst (λ l. Contains l i) (map_is ∙ sym (wholes.map_holds_its_query (is_under m.query) m.taken at.0.held at.2.map)) h in
      (Contains-from_under (is_under m.query) at.0.held i own).1

  abbrev query : Key → Bool
  query = is_under m.query

  abbrev known : List Item
  known = (store_of account side).known

  map_top : IsTop (held_by w (Map j)) (known_by m)
  map_top = subst (λ l. IsTop l (known_by m)) (sym map_is) at.2.map.top

  -- if the map got nothing else, it is a top of what the store knows under the query
  top_of_known : IsPartOf (under query (known_by m)) known → IsTop (held_by w (Map j)) (under query known)
  top_of_known part = record {
    in_order = map_top.in_order;
    among = λ i h. Contains-under query known i (part i (Contains-under query (known_by m) i (map_top.among i h) (held_passes i h)))
        (held_passes i h);
    greatest = λ i h.
        let k = Contains-from_under query known i h in
        let d = (store_fits account w side f).top.greatest i k.0 in
        let c = least d.0 (Contains-under query (held_by w (Store side)) d.0 d.1 (covers-query query d.0 i d.2 k.1)) in
        (c.0, c.1, covers-trans c.0 d.0 i c.2 d.2);
    none_void = map_top.none_void;
  }

  -- and so is what the store holds under it
  pub equal : AreExact account.brought → IsPartOf (under query (known_by m)) known
      → held_by w (Map j) ≡ under query (held_by w (Store side))
  equal exact part =
      let fits = store_fits account w side f in
      one_top query known account.brought exact fits.within (held_by w (Map j)) (under query (held_by w (Store side))) (top_of_known part)
      (top_under_query query known (held_by w (Store side)) fits.top)

pub holds_the_stores : HoldsTheStoresInWorlds
holds_the_stores account w j m side f exact all part = let e = equal account w j m side f all exact part in (e, ap entries_of e)

pub holds_at_least : HoldsAtLeastInWorlds
holds_at_least account w j m side f all = least account w j m side f all

pub whole_is_all : WholeIsAll
whole_is_all account j m side items r there part whole l =
    let f = (store_of account side).state.feed in
    record {
      there = there;
      whole = more_is_whole f (is_under m.query) items m.taken (position f) part
          (earlier_is_whole f (is_under m.query) items (position f) r l whole);
    }

-- ---- labels
pub labels_are_newest : LabelsAreNewestInWorlds
labels_are_newest account w f items j m side name all part q =
    labels.labels_of_a_top (is_under m.query) (store_of account side).known (held_by w (Map j)) name
    (λ i h. items i (known_within account w f (Store side) i h)) (top_of_known account w j m side f all part) q

-- ---- floors
pub nothing_below_floors : NothingBelowFloorsInWorlds
nothing_below_floors account w h f c fits k l = void_isnt_held (known_at account h) (held_by w h) f c (top_at account w fits h) k l
