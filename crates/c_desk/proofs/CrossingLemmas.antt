-- A seat may go to another thread.
use denote.RattleType.{RattleType}
use denote.Param.Send.{IsSend, sendable}
use denote.Param.SendFields.{declared_send}
use Rattle.std.proofs.Crossing.{Box-send, crosses, send, frees}
use Rattle.std.specs.contracts.alloc.Global as Heap
use Rattle.std.specs.contracts.boxed.Box as Box
use Rattle.std.specs.contracts.impls.GlobalAllocator.TheImpl.{ghosts}
use Rattle.std.specs.contracts.option.Option as Option
use Rattle.atomic_table.specs.declared.shared.TableRule as TableRule
use Rattle.atomic_table.specs.contracts.owned.Table as Table
use Rattle.atomic_table.proofs.shared.Shared.TheSendSync as shared
use Rattle.atomic_table.proofs.send_lease.SendLease.TheSendSync as lease
use Rattle.desk.specs.declared.desk.Made as Made
use Rattle.desk.specs.contracts.desk.DeskOf as DeskOf
use Rattle.desk_rule.specs.contracts.table.Home as Home
use Rattle.desk.proofs.CrossingLemmas.{desk_sync, pass_send, slot_send}
use Rattle.ds_entry.proofs.items.Items.TheSendSync as items
use Rattle.ds_entry.proofs.text.Text.TheSendSync as text
use Rattle.ds_entry.proofs.blob.Blob.TheSendSync as blob
use Rattle.ds_names.proofs.name.Name.TheSendSync as name
use Rattle.ds_names.proofs.endpoint.Endpoint.TheSendSync as endpoint
use Rattle.ds_machine.specs.contracts.command.Command as Command
use Rattle.ds_machine.specs.contracts.reply.Reply as Reply
use Rattle.ds_store.specs.contracts.store.Store as Store
use Rattle.ds_store.proofs.CrossingLemmas.{store_send}
use Rattle.c_desk.specs.contracts.board.Board as Board
use Rattle.c_desk.specs.contracts.seat.Seat as Seat

abbrev Stored : RattleType
Stored = Box.the_row Store.the_row Heap.the_row ghosts

store_slot_send : IsSend (Option.the_row (Home.the_row Stored Command.the_row Reply.the_row))
store_slot_send = slot_send Stored Command.the_row Reply.the_row (Box-send Store.the_row store_send)

table_send : (S V K Q : RattleType) (h : TableRule.Ghosts Q.Denot S.Denot V.Denot K.Denot) → IsSend S →
    IsSend (Table.the_row S V K Q Heap.the_row h ghosts)
table_send S V K Q h s = declared_send (Table.the_type S V K Q Heap.the_row h ghosts) (
  search (s, shared.the_send, sendable) depth 40,
  (
    search sendable depth 40,
    (
      search sendable depth 40,
      (
        search (send, frees, lease.the_send, sendable, crosses) depth 40,
        (search (send, frees, lease.the_send, sendable, crosses) depth 40, (search (send, sendable) depth 40, tt)),
      ),
    ),
  ),
)

desk_send : (S V K Q : RattleType) (g : Made.Ghosts K.Denot) (h : TableRule.Ghosts Q.Denot S.Denot V.Denot K.Denot) → IsSend S →
    IsSend (DeskOf.the_row S V K Q g h)
desk_send S V K Q g h s = declared_send (DeskOf.the_type S V K Q g h)
    (search (table_send S V K Q h s, sendable) depth 40, (search sendable depth 40, tt))

reply_send : IsSend Reply.the_row
reply_send = search (items.the_send, text.the_send, blob.the_send, name.the_send, endpoint.the_send, crosses, sendable) fits 20000 depth 80

pub seat_send : IsSend Seat.the_row
seat_send = declared_send Seat.the_type (
  search (desk_send, desk_sync, store_slot_send, crosses, sendable) depth 60,
  (search (pass_send, store_slot_send, sendable) depth 40, (search (reply_send, crosses, sendable) depth 40, tt)),
)

-- and so may a desk with its passes
pub board_send : IsSend Board.the_row
board_send = declared_send Board.the_type (
  search (desk_send, desk_sync, store_slot_send, crosses, sendable) depth 60,
  (search (pass_send, store_slot_send, crosses, sendable) depth 60, tt),
)
