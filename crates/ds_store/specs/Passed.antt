-- What becomes of an item of a Merge that a cause applies to.
use Rattle.std.specs.Prelude.{◌+◌, Result, Ok, Err, Some, None}
use Rattle.ds_entry.specs.declared.item.Item.{Item}
use Rattle.ds_join.specs.declared.merge.Merge.{Merge}
use Rattle.ds_join.specs.declared.merge.Merge.TheVariants as merges
use Rattle.ds_machine.specs.Merging.{Course, item_judged}
use Rattle.ds_machine.specs.declared.refusal.Cause.{Cause}
use Rattle.ds_machine.specs.declared.refusal.Cause.TheVariants as causes
use Rattle.ds_machine.specs.declared.refusal.Refusal.{Refusal}
use Rattle.ds_machine.specs.declared.refusal.Refusal.TheVariants as refusals

-- The item is passed over as known or stale, or stops the merge.
abbrev pub passed_as : Cause → Result Merge Refusal
passed_as causes.Known = Ok merges.Known
passed_as (causes.Refused refusals.Stale) = Ok merges.Stale
passed_as (causes.Refused refusal) = Err refusal

-- The progress of the merge after the item.
abbrev pub item_passed : Course → Item → Result Merge Refusal → Course
item_passed k i (Ok merges.Taken) = item_judged k i None
item_passed k i (Ok merges.Known) = record k { done = k.done + 1 }
item_passed k i (Ok merges.Stale) = record k { done = k.done + 1; stale = k.stale + 1 }
item_passed k i (Err refusal) = record k { stop = Some refusal }
