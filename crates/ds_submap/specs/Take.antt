-- What a map takes of items in order, and where it stops.
use Rattle.std.specs.Prelude.{◌≡◌, ◌⊎◌, Bool, true, false, List, [], ◌∷◌, ◌++◌}
use Rattle.std.specs.Prelude.{length, filter, take, slice_get, Option, Some, None, Result, Ok, Err, IsTrue, IsFalse}
use Rattle.std.specs.List.{list_any}
use Rattle.ds_names.specs.Kind.{names_kind}
use Rattle.ds_entry.specs.declared.item.Item.{Item}
use Rattle.ds_entry.specs.declared.item.Item.TheVariants.{Change as Changed, Floor as Floored}
use Rattle.ds_join.specs.ItemTop.{IsTop}
use Rattle.ds_join.specs.declared.merge.Merge.{Merge}
use Rattle.ds_join.specs.declared.merge.Merge.TheVariants.{Taken, Known, Stale}
use Rattle.ds_join.specs.declared.merge.JoinFault.{JoinFault}
use Rattle.ds_join.specs.declared.merge.JoinFault.TheVariants.{NoRoom}
use Rattle.ds_join.specs.declared.merge.Stop.{Stop}
use Rattle.ds_held.specs.Held.{Holding, held_items}
use Rattle.ds_held.specs.Join.{ItemAnswer, after_item, IsItemRefused}
use Rattle.ds_pattern.specs.declared.query.Query.{Query}
use Rattle.ds_pattern.specs.Under.{is_under}
use Rattle.ds_join.specs.declared.count.Count.{Count}
use Rattle.ds_entry.specs.Item.{passes}
use Rattle.ds_entry.specs.Under.{under}

-- Whether the items arrive in order at `old`, get these answers, none of them a refusal, and lead to `new`.
abbrev pub AreAnswered : Holding → List Item → List Merge → Holding → Type 0
AreAnswered old [] [] new = new ≡ old
AreAnswered old [] (r ∷ rs) new = ⊥
AreAnswered old (i ∷ items) [] new = ⊥
AreAnswered old (i ∷ items) (r ∷ rs) new = ItemAnswer old i (Ok r) × AreAnswered (after_item old i (Ok r)) items rs new

-- Whether the item took effect.
abbrev pub is_taken : Merge → Bool
is_taken Taken = true
is_taken Known = false
is_taken Stale = false

-- Whether something greater is held: a greater version, a floor that voids the change, or a higher floor.
abbrev pub is_stale : Merge → Bool
is_stale Taken = false
is_stale Known = false
is_stale Stale = true

-- Whether the items under the query were merged or raised in order, and the others skipped.
pub record AreTaken (q : Query) (old : Holding) (items : List Item) (new : Holding) : Type 0 where
  pub answers : List Merge
  pub answered : AreAnswered old (under (is_under q) items) answers new

-- Whether all items were taken, and the answers are counted.
pub record AreCounted (q : Query) (old : Holding) (items : List Item) (new : Holding) (count : Count) : Type 0 where
  pub all : AreTaken q old items new
  pub done : count.done ≡ length items
  pub taken : count.taken ≡ length (filter is_taken all.answers)
  pub stale : count.stale ≡ length (filter is_stale all.answers)

-- Whether one item was taken: merged or raised with this answer if it is under the query, else skipped.
abbrev pub IsItemTaken : Query → Holding → Item → Option Merge → Holding → Type 0
IsItemTaken q old i (Some r) new = IsTrue (passes (is_under q) i) × ItemAnswer old i (Ok r) × (new ≡ after_item old i (Ok r))
IsItemTaken q old i None new = IsFalse (passes (is_under q) i) × (new ≡ old)

-- Whether the item needs the query's pattern: a change of a kind that the query names.
abbrev pub needs_query : Query → Item → Bool
needs_query q (Changed c) = names_kind q.kinds c.key.kind
needs_query q (Floored f) = false

-- Whether the item is a floor, or a change that isn't under the query.
abbrev pub IsFloorOrOther : Query → Item → Type 0
IsFloorOrOther q (Changed c) = IsFalse (is_under q c.key)
IsFloorOrOther q (Floored f) = Unit {0}

-- Whether the tester is that of the query; without one, the item is a floor, or isn't under the query.
abbrev pub IsTesterFor : Query → Option Query → Item → Type 0
IsTesterFor q None i = IsFloorOrOther q i
IsTesterFor q (Some asker) i = asker ≡ q

-- Whether the item is under the query, and its merge, or its raised floor, is refused by this fault.
abbrev pub IsRefusedUnder : Query → Holding → Item → JoinFault → Type 0
IsRefusedUnder q held i fault = IsTrue (passes (is_under q) i) × IsItemRefused held i fault

-- Whether the first `done` items were taken, and the next one is refused.
abbrev pub IsNextRefused : Query → List Item → Holding → Stop → Type 0
IsNextRefused q items new stop =
    (next : Item) × (slice_get items stop.done ≡ Some next) × IsRefusedUnder q new next stop.fault

-- Whether memory ran out for the tester of the query, which some item needs, before any item was done.
pub record IsUnasked (q : Query) (items : List Item) (stop : Stop) : Type 0 where
  pub noroom : stop.fault ≡ NoRoom
  pub none_done : stop.done ≡ 0
  pub asked : IsTrue (list_any (needs_query q) items)

-- Whether the first `done` items were taken, and then the next one is refused, or memory ran out for the tester.
pub record IsTakeStopped (q : Query) (old : Holding) (items : List Item) (new : Holding) (stop : Stop) : Type 0 where
  pub front : AreTaken q old (take stop.done items) new
  pub refused : IsNextRefused q items new stop ⊎ IsUnasked q items stop

-- Whether the new holding is the top of the old one and of the items under the query, floors among them.
abbrev pub JoinsUnder : Query → Holding → List Item → Holding → Type 0
JoinsUnder q old items new = IsTop (held_items new) (held_items old ++ under (is_under q) items)

-- The items that were done: all of them, or those before the refused one.
abbrev pub done_items : Result Count Stop → List Item → List Item
done_items (Ok count) items = items
done_items (Err stop) items = take stop.done items
