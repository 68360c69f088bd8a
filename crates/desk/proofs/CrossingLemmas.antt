-- Threads may share a desk, and passes and notes may go to another thread, if the machine may: for any machine, by its
-- row.
use denote.RattleType.{RattleType}
use denote.Param.Send.{IsSend, IsSync, sendable}
use denote.Param.SendFields.{declared_send, declared_sync}
use Rattle.std.proofs.Crossing.{crosses, send, sync, frees}
use Rattle.std.specs.contracts.alloc.Global as Heap
use Rattle.std.specs.contracts.impls.GlobalAllocator.TheImpl.{ghosts}
use Rattle.std.specs.contracts.option.Option as Option
use Rattle.atomic_table.specs.declared.shared.TableRule as TableRule
use Rattle.atomic_table.specs.contracts.owned.Table as Table
use Rattle.atomic_table.proofs.shared.Seat.TheSendSync as seat
use Rattle.atomic_table.proofs.shared.Shared.TheSendSync as shared
use Rattle.atomic_table.proofs.send_lease.SendLease.TheSendSync as lease
use Rattle.desk_rule.specs.contracts.table.Home as Home
use Rattle.desk_rule.specs.contracts.table.LastCall as LastCall
use Rattle.desk.specs.declared.desk.Made as Made
use Rattle.desk.specs.declared.pass.Sight as Sight
use Rattle.desk.specs.contracts.desk.DeskOf as DeskOf
use Rattle.desk.specs.contracts.pass.NoteOf as NoteOf
use Rattle.desk.specs.contracts.pass.PassOf as PassOf

-- the call that a turn was held for has no bytes
pub last_send : (C R : RattleType) → IsSend (LastCall.the_row C R)
last_send C R = declared_send (LastCall.the_type C R) (search (sendable, crosses) depth 40, (search (sendable, crosses) depth 40, tt))

-- the slot's contents while no turn is held
pub home_send : (M C R : RattleType) → IsSend M → IsSend (Home.the_row M C R)
home_send M C R m = declared_send (Home.the_type M C R) (search (m, sendable) depth 40, (search (last_send, sendable) depth 40, tt))

option_send : (T : RattleType) → IsSend T → IsSend (Option.the_row T)
option_send T t = search (crosses, sendable) depth 60

-- and the slot itself
pub slot_send : (M C R : RattleType) → IsSend M → IsSend (Option.the_row (Home.the_row M C R))
slot_send M C R m = option_send (Home.the_row M C R) (home_send M C R m)

pub table_sync : (S V K Q : RattleType) (h : TableRule.Ghosts Q.Denot S.Denot V.Denot K.Denot) → IsSend S
    → IsSync (Table.the_row S V K Q Heap.the_row h ghosts)
table_sync S V K Q h s = declared_sync (Table.the_type S V K Q Heap.the_row h ghosts) (
  search (s, shared.the_sync, sendable) depth 40,
  (
    search sendable depth 40,
    (
      search sendable depth 40,
      (
        search (send, frees, lease.the_sync, sendable, crosses) depth 40,
        (search (send, frees, lease.the_sync, sendable, crosses) depth 40, (search (sync, sendable) depth 40, tt)),
      ),
    ),
  ),
)

-- threads may share a desk whose slot may go to another thread
pub desk_sync : (S V K Q : RattleType) (g : Made.Ghosts K.Denot) (h : TableRule.Ghosts Q.Denot S.Denot V.Denot K.Denot) → IsSend S
    → IsSync (DeskOf.the_row S V K Q g h)
desk_sync S V K Q g h s =
    declared_sync (DeskOf.the_type S V K Q g h) (search (table_sync S V K Q h s, sendable) depth 40, (search sendable depth 40, tt))

-- a pass and a note of such a desk may go to another thread
pub pass_send : (S V : RattleType) (g : Sight.Ghosts V.Denot) → IsSend S → IsSend (PassOf.the_row S V g)
pass_send S V g s = declared_send (PassOf.the_type S V g) (
  search (s, seat.the_send, sendable) depth 40,
  (search sendable depth 40, (search sendable depth 40, (search sendable depth 40, (search sendable depth 40, tt)))),
)

pub note_send : (S V : RattleType) (g : Sight.Ghosts V.Denot) → IsSend S → IsSend (NoteOf.the_row S V g)
note_send S V g s = declared_send (NoteOf.the_type S V g) (search (s, seat.the_send, sendable) depth 40, tt)
