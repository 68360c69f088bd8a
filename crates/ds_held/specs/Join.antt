-- Joining with items: each in order is merged, or raised.
use Rattle.std.specs.Prelude.{◌≡◌, ℕ, List, [], ◌∷◌, ◌++◌, length, take, slice_get, Some, Result, Ok, Err}
use Rattle.ds_entry.specs.declared.item.Item.{Item}
use Rattle.ds_entry.specs.declared.item.Item.TheVariants.{Change as Changed, Floor as Floored}
use Rattle.ds_join.specs.declared.merge.Merge.{Merge}
use Rattle.ds_join.specs.declared.merge.JoinFault.{JoinFault}
use Rattle.ds_join.specs.declared.merge.Stop.{Stop}
use Rattle.ds_held.specs.Held.{Holding}
use Rattle.ds_held.specs.Merge.{MergeAnswer, after_merge, IsMergeRefused}
use Rattle.ds_held.specs.Raise.{RaiseAnswer, after_raise}

-- The answer to an item.
abbrev pub ItemAnswer : Holding → Item → Result Merge JoinFault → Type 0
ItemAnswer old (Changed c) answer = MergeAnswer old c answer
ItemAnswer old (Floored f) answer = RaiseAnswer old f answer

-- The holding after the answer to an item.
abbrev pub after_item : Holding → Item → Result Merge JoinFault → Holding
after_item old (Changed c) answer = after_merge old c answer
after_item old (Floored f) answer = after_raise old f answer

-- Whether the item, which is borrowed, is refused by this fault.
abbrev pub IsItemRefused : Holding → Item → JoinFault → Type 0
IsItemRefused held (Changed c) fault = IsMergeRefused held c fault
IsItemRefused held (Floored f) fault = RaiseAnswer held f (Err fault)

-- Whether the items are merged in order, none is refused, and `new` is the holding after the last one.
abbrev pub AreMerged : Holding → List Item → Holding → Type 0
AreMerged old [] new = new ≡ old
AreMerged old (i ∷ items) new = (answer : Merge) × ItemAnswer old i (Ok answer) × AreMerged (after_item old i (Ok answer)) items new

-- Whether the first `done` of the items are merged, and the next one is refused.
pub record IsJoinStopped (old : Holding) (items : List Item) (new : Holding) (stop : Stop) : Type 0 where
  pub merged : AreMerged old (take stop.done items) new
  pub refused : (next : Item) × (slice_get items stop.done ≡ Some next) × IsItemRefused new next stop.fault

-- `IsJoinStopped` for these items after `before` others that were merged already.
abbrev pub JoinStopsAfter : ℕ → Holding → List Item → Holding → Stop → Type 0
JoinStopsAfter before old items new stop =
    (start : Holding) (front : List Item) → AreMerged start front old → before ≡ length front →
    IsJoinStopped start (front ++ items) new stop
