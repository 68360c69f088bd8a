-- Workers at desks of stores may go to another thread, and their desks may be shared.
use denote.RattleType.{RattleType}
use denote.Param.Send.{IsSend, IsSync, sendable}
use denote.Param.SendFields.{declared_sync}
use Rattle.std.proofs.Crossing.{Box-send}
use Rattle.std.specs.contracts.alloc.Global as Heap
use Rattle.std.specs.contracts.boxed.Box as Box
use Rattle.std.specs.contracts.impls.GlobalAllocator.TheImpl.{ghosts}
use Rattle.std.specs.contracts.option.Option as Option
use Rattle.desk_rule.specs.contracts.table.Home as Home
use Rattle.desk_rule.specs.contracts.view.View as View
use Rattle.desk.specs.contracts.pass.PassOf as PassOf
use Rattle.desk.specs.contracts.pass.ViewSight.TheImpl as sight
use Rattle.desk.proofs.CrossingLemmas.{pass_send, slot_send}
use Rattle.ds_machine.specs.contracts.command.Command as Command
use Rattle.ds_machine.specs.contracts.reply.Reply as Reply
use Rattle.ds_store.specs.contracts.store.Store as Store
use Rattle.ds_store.proofs.CrossingLemmas.{store_send}
use Rattle.ds_live.specs.contracts.turns.Desks as Desks
use Rattle.ds_live.specs.contracts.worker.Worker as Worker
use Rattle.ds_live.proofs.worker.Worker.TheSendSync as worker

-- what a slot holds, a store on the heap
pub store_slot_send : IsSend (Option.the_row (Home.the_row (Box.the_row Store.the_row Heap.the_row ghosts) Command.the_row Reply.the_row))
store_slot_send = slot_send (Box.the_row Store.the_row Heap.the_row ghosts) Command.the_row Reply.the_row
    (Box-send Store.the_row store_send)

pub desks_sync : (D : RattleType) → IsSync D → IsSync (Desks.the_row D)
desks_sync D d = declared_sync (Desks.the_type D) (search (d, sendable) depth 40, (search (d, sendable) depth 40, tt))

worker_send : (P : RattleType) → IsSend P → IsSend (Worker.the_row P)
worker_send P p = worker.the_send P p

-- a worker with a pass of such a desk
pub store_worker_send : IsSend (Worker.the_row (PassOf.the_row
    (Option.the_row (Home.the_row (Box.the_row Store.the_row Heap.the_row ghosts) Command.the_row Reply.the_row))
    (View.the_row (Box.the_row Store.the_row Heap.the_row ghosts) Command.the_row Reply.the_row)
    (sight.ghosts (Box.the_row Store.the_row Heap.the_row ghosts) Command.the_row Reply.the_row)))
store_worker_send = worker_send
    (PassOf.the_row
    (Option.the_row (Home.the_row (Box.the_row Store.the_row Heap.the_row ghosts) Command.the_row Reply.the_row))
    (View.the_row (Box.the_row Store.the_row Heap.the_row ghosts) Command.the_row Reply.the_row)
    (sight.ghosts (Box.the_row Store.the_row Heap.the_row ghosts) Command.the_row Reply.the_row))
    (pass_send
    (Option.the_row (Home.the_row (Box.the_row Store.the_row Heap.the_row ghosts) Command.the_row Reply.the_row))
    (View.the_row (Box.the_row Store.the_row Heap.the_row ghosts) Command.the_row Reply.the_row)
    (sight.ghosts (Box.the_row Store.the_row Heap.the_row ghosts) Command.the_row Reply.the_row)
    store_slot_send)
