-- Commands to a world's stores, and their steps.
use Rattle.std.specs.Prelude.{List}
use Rattle.ds_entry.specs.declared.item.Item.{Item}
use Rattle.ds_machine.specs.State.{State}
use Rattle.ds_machine.specs.Machine.{Step}
use Rattle.ds_machine.specs.declared.command.Command.{Command}
use Rattle.ds_machine.specs.declared.reply.Reply.{Reply}
use Rattle.ds_store.specs.Last.{IsLast}
use Rattle.ds_content.specs.Content.{ContentRecord}
use Rattle.ds_content.specs.Stands.{ContentStands}
use Rattle.ds_replica.specs.declared.event.Side.{Side}
use Rattle.ds_replica.specs.Delivery.{Tally, StoreTakes}
use Rattle.ds_replica.specs.World.{World, store_at, with_state}
use Rattle.ds_world.specs.Told.{IsNoRoomLast}

-- Whether the store of the side made a step with this reply, in each world that the old contents stand for.
abbrev pub StoreSteps : ContentRecord → ContentRecord → ContentRecord → ContentRecord → Side → Command → Reply → Type 0
StoreSteps a b newa newb side command reply =
    (w : World) → ContentStands a w.a → ContentStands b w.b →
    (s : State) × Step (store_at w side) command reply s
    × ContentStands newa (with_state w side s).a × ContentStands newb (with_state w side s).b

-- Whether the reply reports lack of memory last.
abbrev pub LastOf : ContentRecord → ContentRecord → Side → Command → Reply → Type 0
LastOf a b side command reply = (w : World) → ContentStands a w.a → ContentStands b w.b → IsLast (store_at w side) command reply

-- Whether a store took the items as Merges, and stopped for lack of memory only where that comes last.
abbrev pub ItemsAreTaken : ContentRecord → List Item → Tally → ContentRecord → Type 0
ItemsAreTaken old items tally new =
    (s : State) → ContentStands old s →
    (t : State) × StoreTakes s items tally t × ContentStands new t × IsNoRoomLast items tally.count.done tally.stop t
