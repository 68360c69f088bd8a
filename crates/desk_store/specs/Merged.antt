-- Items that a store continues to hold after they were merged into it.
use Rattle.std.specs.Prelude.{List}
use Rattle.history.specs.declared.entry.Entry.{Entry}
use Rattle.history.specs.History.{Run}
use Rattle.ds_entry.specs.declared.item.Item.{Item}
use Rattle.ds_join.specs.ItemTop.{CoversAll}
use Rattle.ds_machine.specs.State.{State, held}
use Rattle.ds_machine.specs.Reached.{IsReached}
use Rattle.ds_machine.specs.declared.command.Command.{Command}
use Rattle.ds_machine.specs.declared.reply.Reply.{Reply}
use Rattle.ds_store.specs.Turns.{Answered}

-- Whether the store holds the items, or items that cover them. For each change it holds at least its version, or a floor that makes it
-- void. For each floor it holds one at least as high.
abbrev pub HoldsAll : State → List Item → Type 0
HoldsAll s items = CoversAll (held s) items

-- A law: a store continues to hold merged items, whatever commands it gets.
abbrev pub MergedStaysHeld : Type 0
MergedStaysHeld =
    (es : List (Entry Command Reply)) (s t : State) (items : List Item) → IsReached s → Run Answered s es t → HoldsAll s items →
    HoldsAll t items
