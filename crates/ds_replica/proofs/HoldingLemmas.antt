-- What holders hold that know the same, or everything that a store accepted.
use Rattle.std.proofs.Common.{◌≡◌, Bool, true, List, [], ◌++◌, filter, sym, ap, ◌∙◌, subst, inl, inr}
use Rattle.std.specs.List.{Contains}
use Rattle.std.proofs.lemmas.List.Kept.{IsStrictlySortedBy-filter}
use Rattle.std.proofs.lemmas.List.Elements.{Contains-append_left, Contains-append_right, Contains-append_cases}
use Rattle.ds_names.specs.declared.key.Key.{Key}
use Rattle.ds_entry.specs.Item.{passes, item_cmp}
use Rattle.ds_entry.specs.ItemCovers.{covers}
use Rattle.ds_entry.specs.declared.item.Item.{Item}
use Rattle.ds_entry.specs.declared.item.Item.TheVariants.{Change as Changed, Floor as Floored}
use Rattle.ds_entry.proofs.Members.{Contains-head, Contains-from_filter}
use Rattle.ds_entry.proofs.ItemLemmas.{covers-trans, covers-query}
use Rattle.ds_join.specs.ItemTop.{IsTop, IsPartOf, CoversAll}
use Rattle.ds_join.proofs.ItemTopLemmas.{held_apart, top_is_unique, top_of_same, top_of_top, join_is_commutative}
use Rattle.ds_feed.specs.Feed.{Feed, position}
use Rattle.ds_replica.specs.Sent.{Sent, IsSent, learnt}
use Rattle.ds_replica.specs.Whole.{IsWhole}
use Rattle.ds_replica.specs.CatchUp.{MapHolds, HoldsTheStores, HoldsAlike, HoldsATop, HoldsAtLeast, AnyHolderHoldsTheStores}
use Rattle.ds_replica.specs.CatchUp.{MapHoldsItsQuery}
use Rattle.ds_replica.specs.Agreement.{HoldersAgree, TopUnderQuery, JoinOfHolders, JoinUnderQuery, MoreIsHeld}
use Rattle.ds_replica.proofs.SentLemmas.{Contains-under, Contains-from_under, under-all, stood, from_stood, sent_covers, learnt_of}
use Rattle.ds_replica.proofs.JournalLemmas.{all_before}
use Rattle.ds_entry.specs.Under.{under, entries_of}

-- ---- agreement

pub top_under_query : TopUnderQuery
top_under_query query known held t = record {
  in_order = IsStrictlySortedBy-filter item_cmp (passes query) held t.in_order;
  among = λ i h. let k = Contains-from_under query held i h in Contains-under query known i (t.among i k.0) k.1;
  greatest = λ i h.
      let k = Contains-from_under query known i h in
      let d = t.greatest i k.0 in
      (d.0, Contains-under query held d.0 d.1 (covers-query query d.0 i d.2 k.1), d.2);
  none_void = λ f c h k. t.none_void f c (Contains-from_under query held (Floored f) h).0 (Contains-from_under query held (Changed c) k).0;
}

pub holders_agree : HoldersAgree
holders_agree query known other held too t u n k =
    let one = top_under_query query known held t in
    let two = top_of_same (under query too) (under query other) (under query known) k.here k.there (top_under_query query other too u) in
    let same : under query held ≡ under query too = top_is_unique (under query known) (under query held) (under query too) n one two in
    (same, ap entries_of same)

pub join_of_holders : JoinOfHolders
join_of_holders known other held too joined t u j =
    let one : IsTop joined (known ++ too) = top_of_top known too held joined t j in
    let turned : IsTop joined (too ++ known) = join_is_commutative known too joined one in
    join_is_commutative other known joined (top_of_top other known too joined u turned)

-- The part of two joined lists that is under a query.
under-append : (query : Key → Bool) (xs ys : List Item) (i : Item) → Contains (under query (xs ++ ys)) i →
    Contains (under query xs ++ under query ys) i
under-append query xs ys i h =
    let k = Contains-from_under query (xs ++ ys) i h in
    elim (Contains-append_cases xs ys i k.0) [
      | inl l ↦ Contains-append_left (under query xs) (under query ys) i (Contains-under query xs i l k.1)
      | inr l ↦ Contains-append_right (under query xs) (under query ys) i (Contains-under query ys i l k.1)
    ]

append-under : (query : Key → Bool) (xs ys : List Item) (i : Item) → Contains (under query xs ++ under query ys) i →
    Contains (under query (xs ++ ys)) i
append-under query xs ys i h =
    elim (Contains-append_cases (under query xs) (under query ys) i h) [
      | inl l ↦ (let k = Contains-from_under query xs i l in Contains-under query (xs ++ ys) i (Contains-append_left xs ys i k.0) k.1)
      | inr l ↦ (let k = Contains-from_under query ys i l in Contains-under query (xs ++ ys) i (Contains-append_right xs ys i k.0) k.1)
    ]

pub join_under_query : JoinUnderQuery
join_under_query query held too joined j =
    top_of_same (under query joined) (under query (held ++ too)) (under query held ++ under query too) (under-append query held too)
    (append-under query held too) (top_under_query query (held ++ too) joined j)

pub more_is_held : MoreIsHeld
more_is_held known more held too t u part i h = u.greatest i (part i (t.among i h))

-- ---- catching up

-- A holder that knows everything accepted under a query holds at least what the store holds under it.
at_least : (f : Feed) (query : Key → Bool) (known stored held : List Item) → IsTop stored f.accepted → IsTop held known →
    IsPartOf (under query f.accepted) known → CoversAll (under query held) (under query stored)
at_least f query known stored held s t all i h =
    let k = Contains-from_under query stored i h in
    let d = t.greatest i (all i (Contains-under query f.accepted i (s.among i k.0) k.1)) in
    (d.0, Contains-under query held d.0 d.1 (covers-query query d.0 i d.2 k.1), d.2)

-- And at most that, if what is known is covered by what the store holds.
at_most : (query : Key → Bool) (known stored held : List Item) → IsTop held known → CoversAll stored (under query known) →
    CoversAll (under query stored) (under query held)
at_most query known stored held t only i h =
    let k = Contains-from_under query held i h in
    let d = only i (Contains-under query known i (t.among i k.0) k.1) in
    (d.0, Contains-under query stored d.0 d.1 (covers-query query d.0 i d.2 k.1), d.2)

-- what the store holds under the query is then the top of what is known under it
stored_top : (f : Feed) (query : Key → Bool) (known stored : List Item) → IsTop stored f.accepted →
    IsPartOf (under query f.accepted) known → CoversAll stored (under query known) → IsTop (under query stored) (under query known)
stored_top f query known stored s all only =
    let own = top_under_query query f.accepted stored s in
    record {
      in_order = own.in_order;
      among = λ i h. let k = own.among i h in Contains-under query known i (all i k) (Contains-from_under query f.accepted i k).1;
      greatest = λ i h.
          let d = only i h in
          (d.0, Contains-under query stored d.0 d.1 (covers-query query d.0 i d.2 (Contains-from_under query known i h).1), d.2);
      none_void = own.none_void;
    }

pub any_holder : AnyHolderHoldsTheStores
any_holder f query known stored held s t all only n =
    top_is_unique (under query known) (under query held) (under query stored) n (top_under_query query known held t)
    (stored_top f query known stored s all only)

-- ---- maps

-- A map knows everything that is under its query and stood for, so everything accepted under it.
map_knows : (f : Feed) (query : Key → Bool) (items : List Sent) (held : List Item) → MapHolds query items held →
    IsWhole f query items (position f) → IsPartOf (under query f.accepted) (learnt query items)
map_knows f query items held m w i h =
    learnt_of query items m.sent i (Contains-from_under query f.accepted i h).1
    (w i (subst (λ (l : List Item). Contains (under query l) i) (sym (all_before f)) h))

map_passes : (query : Key → Bool) (items : List Sent) (held : List Item) → MapHolds query items held → (i : Item) → Contains held i →
    passes query i ≡ true
map_passes query items held m i h =
    let s = from_stood (filter (λ (t : Sent). passes query t.item) items) i (m.top.among i h) in
    let k = Contains-from_filter (λ (t : Sent). passes query t.item) items s.0 s.1 in
    let sent : IsSent s.0 = m.sent s.0 k.0 in
    let own : Contains (learnt query items) s.0.item =
    stood (filter (λ (t : Sent). passes query t.item) items) s.0 s.0.item s.1 (sent.among s.0.item (Contains-head s.0.item [])) in
    let d = m.top.greatest s.0.item own in
    let same : d.0 ≡ i = held_apart held (learnt query items) m.top i d.0 h d.1
    (covers-trans d.0 s.0.item i d.2 (sent_covers s.0 sent i s.2)) in
    covers-query query i s.0.item (subst (λ (z : Item). covers z s.0.item ≡ true) same d.2) k.1

pub map_holds_its_query : MapHoldsItsQuery
map_holds_its_query query items held m = under-all query held (map_passes query items held m)

pub holds_the_stores : HoldsTheStores
holds_the_stores f query items stored held s m w only n =
    let same : held ≡ under query stored = sym (map_holds_its_query query items held m) ∙
    any_holder f query (learnt query items) stored held s m.top (map_knows f query items held m w) only n in
    (same, subst (λ (l : List Item). IsTop l (under query f.accepted)) (sym same) (top_under_query query f.accepted stored s))

pub holds_at_least : HoldsAtLeast
holds_at_least f query items stored held s m w =
    subst (λ (l : List Item). CoversAll l (under query stored)) (map_holds_its_query query items held m)
    (at_least f query (learnt query items) stored held s m.top (map_knows f query items held m w))

pub holds_alike : HoldsAlike
holds_alike f query items stored held s m w only = (
  holds_at_least f query items stored held s m w,
  subst (λ (l : List Item). CoversAll (under query stored) l) (map_holds_its_query query items held m)
      (at_most query (learnt query items) stored held m.top only),
)

pub holds_a_top : HoldsATop
holds_a_top f query items held m w only =
    let known = learnt query items in
    let all = map_knows f query items held m w in
    subst (λ (l : List Item). IsTop l (under query f.accepted)) (map_holds_its_query query items held m)
    (top_of_same (under query held) (under query known) (under query f.accepted)
    (λ i h. Contains-under query f.accepted i (only i h) (Contains-from_under query known i h).1)
    (λ i h. Contains-under query known i (all i h) (Contains-from_under query f.accepted i h).1)
    (top_under_query query known held m.top))
