-- Laws: what a floor makes void stays away.
use Rattle.std.specs.Prelude.{List, Contains}
use Rattle.ds_entry.specs.declared.floor.Floor.{Floor}
use Rattle.ds_entry.specs.declared.item.Item.TheVariants.{Floor as Floored}
use Rattle.ds_machine.specs.State.{State, held}
use Rattle.ds_machine.specs.Machine.{Run}
use Rattle.ds_machine.specs.Reached.{IsReached}
use Rattle.ds_machine.specs.declared.command.Command.{Command}
use Rattle.ds_machine.specs.declared.reply.Reply.{Reply}
use Rattle.ds_join.specs.FloorStands.{FloorStands}

abbrev pub AcceptedFloorStands : Type 0
AcceptedFloorStands = (s : State) (f : Floor) → IsReached s → Contains s.feed.accepted (Floored f) → FloorStands (held s) f

-- A law: no later command ever brings it.
abbrev pub FloorStandsOverRuns : Type 0
FloorStandsOverRuns =
    (s t : State) (f : Floor) (commands : List Command) (replies : List Reply) → IsReached s → Contains (held s) (Floored f) →
    Run s commands replies t → FloorStands (held t) f
