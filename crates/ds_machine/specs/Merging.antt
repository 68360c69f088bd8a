-- How a Merge goes through its items.
use Rattle.std.specs.Prelude.{ℕ, ◌+◌, List, [], ◌∷◌, ◌++◌, length, fold, Option, Some, None}
use Rattle.std.specs.Option.{option_map_or}
use Rattle.ds_entry.specs.declared.item.Item.{Item}
use Rattle.ds_machine.specs.State.{State, takes_effect, owed}
use Rattle.ds_machine.specs.Standing.{cause_of}
use Rattle.ds_machine.specs.declared.refusal.Cause.{Cause}
use Rattle.ds_machine.specs.declared.refusal.Cause.TheVariants as causes
use Rattle.ds_machine.specs.declared.refusal.Refusal.{Refusal}
use Rattle.ds_machine.specs.declared.refusal.Refusal.TheVariants as refusals
use Rattle.ds_machine.specs.declared.reply.Reply.{Reply}
use Rattle.ds_machine.specs.declared.reply.Reply.TheVariants.{Merged, MergeStopped, Refused}

-- The progress of a merge: the state so far, the number of items done, those that took effect, the number of stale
-- ones, and the refusal that stopped it.
pub record Course : Type 0 where
  pub state : State
  pub done : ℕ
  pub taken : List Item
  pub stale : ℕ
  pub stop : Option Refusal

abbrev pub begun : State → Course
begun s = record { state = s; done = 0; taken = []; stale = 0; stop = None }

-- The progress after an item was judged: it takes effect, is known, is stale, or stops the merge.
abbrev pub item_judged : Course → Item → Option Cause → Course
item_judged k i None = record k { state = takes_effect k.state (i ∷ []); done = k.done + 1; taken = k.taken ++ i ∷ [] }
item_judged k i (Some causes.Known) = record k { done = k.done + 1 }
item_judged k i (Some (causes.Refused refusals.Stale)) = record k { done = k.done + 1; stale = k.stale + 1 }
item_judged k i (Some (causes.Refused refusal)) = record k { stop = Some refusal }

-- The progress after one more item. A stopped merge doesn't change.
abbrev pub item_merged : Course → Item → Course
item_merged k i = option_map_or (λ stop. k) k.stop (item_judged k i (cause_of k.state i))

-- The progress after the items in order, up to the first refused one.
abbrev pub course : State → List Item → Course
course s items = fold item_merged (begun s) items

-- The reply of a merge that began in state `s`.
abbrev pub merge_reply : State → Course → Reply
merge_reply s k =
    option_map_or (λ fault. MergeStopped k.done fault (owed s k.taken)) k.stop (Merged k.done (length k.taken) k.stale (owed s k.taken))

abbrev pub merging : State → List Item → Option Refusal → Reply × State
merging s items refusal = option_map_or (λ r. (Refused r, s)) refusal (merge_reply s (course s items), (course s items).state)
