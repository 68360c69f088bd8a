-- What items stand for, and what is under a query.
use Rattle.std.proofs.Common.{◌≡◌, Bool, true, cond, List, [], ◌∷◌, ◌++◌, refl, sym, ap, ◌∙◌, subst}
use Rattle.std.specs.List.{Contains, filter}
use Rattle.std.proofs.lemmas.List.Elements.{Contains-append_left, Contains-append_right}
use Rattle.ds_names.specs.declared.key.Key.{Key}
use Rattle.ds_entry.specs.Item.{passes}
use Rattle.ds_entry.specs.ItemCovers.{covers, covered_by}
use Rattle.ds_entry.specs.declared.item.Item.{Item}
use Rattle.ds_entry.specs.declared.item.Item.TheVariants.{Change as Changed, Floor as Floored}
use Rattle.ds_entry.proofs.Members.{Contains-single, Contains-head, Contains-tail, Contains-filter, Contains-from_filter, Contains-map}
use Rattle.ds_entry.proofs.Members.{Contains-from_map, Contains-flat_map, Contains-from_flat_map}
use Rattle.ds_entry.proofs.ItemLemmas.{covers-query}
use Rattle.ds_join.specs.ItemTop.{IsPartOf}
use Rattle.ds_join.proofs.ItemTopLemmas.{top_of_covered}
use Rattle.ds_replica.specs.Under.{KeepsQuery}
use Rattle.ds_replica.specs.Sent.{Sent, IsSent, sent_by, given, stood_for, learnt}
use Rattle.ds_replica.specs.CatchUp.{GivenIsSent}
use Rattle.ds_entry.specs.Under.{under}

-- ---- under a query

pub Contains-under : (query : Key → Bool) (items : List Item) (i : Item) → Contains items i → passes query i ≡ true →
    Contains (under query items) i
Contains-under query items i h e = Contains-filter (passes query) items i h e

pub Contains-from_under : (query : Key → Bool) (items : List Item) (i : Item) → Contains (under query items) i →
    Contains items i × (passes query i ≡ true)
Contains-from_under query items i h = Contains-from_filter (passes query) items i h

-- a scope that keeps all keys of a query keeps all its items
pub kept : (scope query : Key → Bool) → KeepsQuery scope query → (i : Item) → passes query i ≡ true → passes scope i ≡ true
kept scope query k (Changed c) e = k c.key e
kept scope query k (Floored f) e = refl

pub under-all : (query : Key → Bool) (items : List Item) → ((i : Item) → Contains items i → passes query i ≡ true) →
    under query items ≡ items
under-all query [] f = refl
under-all query (i ∷ is) f =
    ap (λ (b : Bool). cond b (i ∷ under query is) (under query is)) (f i (Contains-head i is)) ∙
    ap (λ (l : List Item). i ∷ l) (under-all query is (λ j h. f j (Contains-tail i is j h)))

-- ---- what items stand for

pub stood : (items : List Sent) (s : Sent) (i : Item) → Contains items s → Contains s.stands_for i → Contains (stood_for items) i
stood items s i h k = Contains-flat_map (λ (t : Sent). t.stands_for) items s i h k

pub from_stood : (items : List Sent) (i : Item) → Contains (stood_for items) i → (s : Sent) × Contains items s × Contains s.stands_for i
from_stood items i h = Contains-from_flat_map (λ (t : Sent). t.stands_for) items i h

-- More items stand for no less.
pub stood_wider : (items more : List Sent) → ((s : Sent) → Contains items s → Contains more s) → IsPartOf (stood_for items) (stood_for more)
stood_wider items more f i h =
    let s = from_stood items i h in
    stood more s.0 i (f s.0 s.1) s.2

pub stood_left : (xs ys : List Sent) → IsPartOf (stood_for xs) (stood_for (xs ++ ys))
stood_left xs ys = stood_wider xs (xs ++ ys) (λ s h. Contains-append_left xs ys s h)

pub stood_right : (xs ys : List Sent) → IsPartOf (stood_for ys) (stood_for (xs ++ ys))
stood_right xs ys = stood_wider ys (xs ++ ys) (λ s h. Contains-append_right xs ys s h)

-- What is returned stands for everything that is known and covered by it.
pub given_stands : (known items : List Item) (i j : Item) → Contains items j → Contains known i → covers j i ≡ true →
    Contains (stood_for (given known items)) i
given_stands known items i j h k e = stood (given known items) (sent_by known j) i (Contains-map (sent_by known) items j h)
    (Contains-filter (covers j) known i k e)

-- And for nothing else.
pub from_given : (known items : List Item) (i : Item) → Contains (stood_for (given known items)) i →
    (j : Item) × Contains items j × (covers j i ≡ true)
from_given known items i h =
    let s = from_stood (given known items) i h in
    let j = Contains-from_map (sent_by known) items s.0 s.1 in
    let there : Contains (covered_by j.0 known) i = subst (λ (t : Sent). Contains t.stands_for i) (sym j.2) s.2 in
    (j.0, j.1, (Contains-from_filter (covers j.0) known i there).1)

pub given_is_sent : GivenIsSent
given_is_sent known items part s h =
    let j = Contains-from_map (sent_by known) items s h in
    subst IsSent j.2 (top_of_covered j.0 known (part j.0 j.1))

-- ---- what a map learns

-- A sent item covers everything that it stands for.
pub sent_covers : (s : Sent) → IsSent s → (i : Item) → Contains s.stands_for i → covers s.item i ≡ true
sent_covers s t i h =
    let d = t.greatest i h in
    subst (λ (z : Item). covers z i ≡ true) (Contains-single s.item d.0 d.1) d.2

-- What is stood for and under the query, a map with this query learns.
pub learnt_of : (query : Key → Bool) (items : List Sent) → ((s : Sent) → Contains items s → IsSent s) → (i : Item) →
    passes query i ≡ true → Contains (stood_for items) i → Contains (learnt query items) i
learnt_of query items sent i q h =
    let s = from_stood items i h in
    let p : passes query s.0.item ≡ true = covers-query query s.0.item i (sent_covers s.0 (sent s.0 s.1) i s.2) q in
    stood (filter (λ (t : Sent). passes query t.item) items) s.0 i (Contains-filter (λ (t : Sent). passes query t.item) items s.0 s.1 p) s.2
