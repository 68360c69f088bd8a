-- The faults of an exchange, and the condition of each. p to q is the pass that reads, and r to s the one that merges.
use Rattle.std.specs.Prelude.{◌≡◌, ◌⊎◌, ℕ, ◌+◌, ◌<◌, List, [], ◌∷◌, ◌++◌, length}
use Rattle.std.specs.List.{AllByRecursion}
use Rattle.history.specs.declared.entry.Entry.{Entry}
use Rattle.ds_names.specs.Limits.{most_items}
use Rattle.ds_entry.specs.declared.item.Item.{Item}
use Rattle.ds_machine.specs.declared.command.Command.{Command}
use Rattle.ds_machine.specs.declared.refusal.Refusal.{Refusal}
use Rattle.ds_machine.specs.declared.refusal.Refusal.TheVariants as refusals
use Rattle.ds_machine.specs.declared.reply.Reply.{Reply}
use Rattle.ds_machine.specs.declared.reply.Reply.TheVariants as replies
use Rattle.desk_store.specs.Called.{Made}
use Rattle.desk_store.specs.CallFaults.{FailsBy}
use Rattle.desk_store.specs.Merging.{IsStoppedBy}
use Rattle.desk_store.specs.Record.{PassRecord}
use Rattle.desk_store.specs.declared.call_fault.CallFault.TheVariants as calls
use Rattle.desk_store.specs.declared.merging.MergeFault.{MergeFault}
use Rattle.desk_store.specs.declared.merging.MergeFault.TheVariants as merges
use Rattle.desk_store.specs.declared.exchange_fault.ExchangeFault.{ExchangeFault}
use Rattle.desk_store.specs.declared.exchange_fault.ExchangeFault.TheVariants.{Call, Stopped}
use Rattle.desk_store.specs.Giving.{GivesAll, IsWholeMerge, all_given}
use Rattle.desk_store.specs.Telling.{all_told}

-- The fault of an exchange for the fault of a Merge.
abbrev pub merge_fault : MergeFault → ExchangeFault
merge_fault (merges.Desk fault) = Call (calls.Desk fault)
merge_fault (merges.Stopped done fault) = Stopped done fault

-- Whether the store stopped the pass's last call after `done` items, or refused it as a whole.
pub record WasStopped (r s : PassRecord) (done : ℕ) (fault : Refusal) : Type 0 where
  pub front : List (Entry Command Reply)
  pub last : Entry Command Reply
  pub made : Made r s (front ++ last ∷ [])
  pub stopped : IsStoppedBy last.reply done fault

-- ---- out of memory

-- Whether the Merges so far did all of their items, and more than 256 items are left, so that a part has to be split off.
pub record LeavesSome (r s : PassRecord) (items : List Item) : Type 0 where
  pub own : List (Entry Command Reply)
  pub made : Made r s own
  pub merges : AllByRecursion IsWholeMerge own
  pub left : length (all_given own) + most_items < length items

-- Whether the last question was refused with NoRoom, after the items of all replies before it were merged.
pub record AskedNoRoom (p q r s : PassRecord) : Type 0 where
  pub before : List (Entry Command Reply)
  pub last : Entry Command Reply
  pub made : Made p q (before ++ last ∷ [])
  pub refused : last.reply ≡ replies.Refused refusals.NoRoom
  pub taken : ℕ
  pub gives : GivesAll r s (all_told before) taken

-- Whether more than 256 items of the replies are left to merge.
pub record ToldMore (p q r s : PassRecord) : Type 0 where
  pub own : List (Entry Command Reply)
  pub made : Made p q own
  pub leaves : LeavesSome r s (all_told own)

-- Whether the first store is out of memory, or the caller is when it splits off a part. No Merge was stopped.
abbrev pub LacksRoom : PassRecord → PassRecord → PassRecord → PassRecord → Type 0
LacksRoom p q r s = AskedNoRoom p q r s ⊎ ToldMore p q r s

-- ---- each fault

-- Whether the fault is that of the pass that merges these items.
abbrev pub IsGivingFault : PassRecord → PassRecord → List Item → ExchangeFault → Type 0
IsGivingFault r s items (Call (calls.Desk fault)) = FailsBy r s (calls.Desk fault)
IsGivingFault r s items (Call (calls.Refused refusal)) = ⊥
IsGivingFault r s items (Call calls.NoRoom) = LeavesSome r s items
IsGivingFault r s items (Stopped done fault) = WasStopped r s done fault

-- Whether the fault is that of an exchange: no place is left at one of the desks, the first store refused the last question, memory ran
-- out, or the second store stopped the last Merge.
abbrev pub IsExchangeFault : PassRecord → PassRecord → PassRecord → PassRecord → ExchangeFault → Type 0
IsExchangeFault p q r s (Call (calls.Desk fault)) = FailsBy p q (calls.Desk fault) ⊎ FailsBy r s (calls.Desk fault)
IsExchangeFault p q r s (Call (calls.Refused refusal)) = FailsBy p q (calls.Refused refusal)
IsExchangeFault p q r s (Call calls.NoRoom) = LacksRoom p q r s
IsExchangeFault p q r s (Stopped done fault) = WasStopped r s done fault
