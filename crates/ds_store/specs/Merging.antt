-- What becomes of one item of a Merge.
use Rattle.std.specs.Prelude.{◌≡◌, ◌⊎◌, Bool, List, [], ◌∷◌, Some, None, Result, Ok, Err}
use Rattle.ds_entry.specs.declared.item.Item.{Item}
use Rattle.ds_join.specs.declared.merge.Merge.{Merge}
use Rattle.ds_join.specs.declared.merge.Merge.TheVariants as merges
use Rattle.ds_watch.specs.Mask.{either}
use Rattle.ds_machine.specs.State.{State, takes_effect}
use Rattle.ds_machine.specs.Standing.{cause_of}
use Rattle.ds_machine.specs.declared.refusal.Cause.TheVariants as causes
use Rattle.ds_machine.specs.declared.refusal.Refusal.{Refusal}
use Rattle.ds_machine.specs.declared.refusal.Refusal.TheVariants as refusals
use Rattle.ds_store.specs.Passed.{passed_as}

-- Whether this refusal applies to the item, and stops the merge.
pub record StopsMerge (s : State) (i : Item) (fault : Refusal) : Type 0 where
  pub stands : cause_of s i ≡ Some (causes.Refused fault)
  pub refuses : passed_as (causes.Refused fault) ≡ Err fault

-- The item takes effect, is passed over, or is refused, perhaps for lack of memory.
abbrev pub MergesItem : State → Item → Result Merge Refusal → State → Type 0
MergesItem s i (Ok merges.Taken) t = (cause_of s i ≡ None) × (t ≡ takes_effect s (i ∷ []))
MergesItem s i (Ok merges.Known) t = (cause_of s i ≡ Some causes.Known) × (t ≡ s)
MergesItem s i (Ok merges.Stale) t = (cause_of s i ≡ Some (causes.Refused refusals.Stale)) × (t ≡ s)
MergesItem s i (Err fault) t = (t ≡ s) × ((fault ≡ refusals.NoRoom) ⊎ StopsMerge s i fault)

-- The flags of the subscriptions owed the taken items so far, after one more item.
abbrev pub owed_after : Result Merge Refusal → List Bool → List Bool → List Bool
owed_after (Ok merges.Taken) total more = either total more
owed_after (Ok merges.Known) total more = total
owed_after (Ok merges.Stale) total more = total
owed_after (Err fault) total more = total
