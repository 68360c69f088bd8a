-- The faults of a refresh, and the condition of each.
use Rattle.std.specs.Prelude.{◌≡◌, ◌≢◌, ◌⊎◌, ℕ, ◌<◌, ◌≤◌, List, [], ◌∷◌, ◌++◌, length, Option, Some, None}
use Rattle.history.specs.declared.entry.Entry.{Entry}
use Rattle.ds_entry.specs.declared.item.Item.{Item}
use Rattle.ds_pattern.specs.declared.query.Query.{Query}
use Rattle.ds_machine.specs.declared.command.Command.{Command}
use Rattle.ds_machine.specs.declared.refusal.Refusal.TheVariants as refusals
use Rattle.ds_machine.specs.declared.reply.Reply.{Reply}
use Rattle.ds_machine.specs.declared.reply.Reply.TheVariants.{Refused}
use Rattle.desk_store.specs.Called.{Made}
use Rattle.desk_store.specs.CallFaults.{FailsAsking}
use Rattle.desk_store.specs.Record.{PassRecord}
use Rattle.desk_store.specs.declared.call_fault.CallFault.{CallFault}
use Rattle.desk_store.specs.declared.call_fault.CallFault.TheVariants.{NoRoom}
use Rattle.desk_store.specs.declared.refresh_fault.RefreshFault.{RefreshFault}
use Rattle.desk_store.specs.declared.refresh_fault.RefreshFault.TheVariants.{BadLimit, Call}
use Rattle.desk_store.specs.Follower.{FollowerRecord}
use Rattle.desk_store.specs.FollowerCalls.{AreOpenCalls, Checks, follower_command}

-- ---- out of memory

-- Whether the call was a Check that returned items for the map, with the follower's own stamp.
abbrev pub TellsItems : ℕ → Entry Command Reply → Option ℕ → Type 0
TellsItems sub e None = ⊥
TellsItems sub e (Some stamp) = (items : List Item) × (after : ℕ) × Checks sub e items stamp after × (0 < length items)

-- Whether a follower with this last stamp, or none, may run out of memory with these calls. A lost one may run out before it subscribes,
-- for the copy of its pattern's text. Otherwise there was one call, which the store refused with NoRoom, or which returned items.
abbrev pub CallLacksRoom : ℕ → Query → List (Entry Command Reply) → Option ℕ → Type 0
CallLacksRoom sub query [] None = query.text ≢ []
CallLacksRoom sub query [] (Some stamp) = ⊥
CallLacksRoom sub query (e ∷ es) stamp = (es ≡ []) × ((e.reply ≡ Refused refusals.NoRoom) ⊎ TellsItems sub e stamp)

pub record LacksNow (p q : PassRecord) (f : FollowerRecord) : Type 0 where
  pub own : List (Entry Command Reply)
  pub made : Made p q own
  pub lacks : CallLacksRoom f.sub f.map.query own f.stamp

-- Whether a refresh ran out of memory, after calls that didn't end it.
pub record RunsShort (p q : PassRecord) (f : FollowerRecord) : Type 0 where
  pub own : List (Entry Command Reply)
  pub last : List (Entry Command Reply)
  pub stamp : Option ℕ
  pub made : Made p q (own ++ last)
  pub open_calls : AreOpenCalls f.sub f.map.query f.stamp own stamp
  pub lacks : CallLacksRoom f.sub f.map.query last stamp

-- ---- each fault

-- Whether the fault is that of the follower's next call.
abbrev pub FailsOnce : PassRecord → PassRecord → FollowerRecord → CallFault → Type 0
FailsOnce p q f NoRoom = LacksNow p q f
FailsOnce p q f fault = FailsAsking p q (follower_command f.sub f.map.query f.stamp) fault

-- Whether the fault is that of the follower's next call, after calls that didn't end the refresh.
pub record FailsAfterCalls (p q : PassRecord) (f : FollowerRecord) (fault : CallFault) : Type 0 where
  pub mid : PassRecord
  pub own : List (Entry Command Reply)
  pub stamp : Option ℕ
  pub made : Made p mid own
  pub open_calls : AreOpenCalls f.sub f.map.query f.stamp own stamp
  pub fails : FailsAsking mid q (follower_command f.sub f.map.query stamp) fault

-- Whether the fault is that of the last of some calls of the follower.
abbrev pub FailsRefreshing : PassRecord → PassRecord → FollowerRecord → CallFault → Type 0
FailsRefreshing p q f NoRoom = RunsShort p q f
FailsRefreshing p q f fault = FailsAfterCalls p q f fault

-- Whether the fault is BadLimit for a limit that isn't 2 to 65536, and otherwise the fault of the refresh's last call.
abbrev pub IsRefreshFault : ℕ → PassRecord → PassRecord → FollowerRecord → RefreshFault → Type 0
IsRefreshFault limit p q f BadLimit = (limit < 2) ⊎ (65536 < limit)
IsRefreshFault limit p q f (Call fault) = (2 ≤ limit) × (limit ≤ 65536) × FailsRefreshing p q f fault
