use Rattle.std.proofs.Common.{subst}
use Rattle.ds_line.specs.declared.part_fault.PartFault.{PartFault}
use Rattle.script_commands.specs.Front.{StopsAfterWord}
use Rattle.script_commands.proofs.FrontLemmas.{stop_fits, stop_place, stop_room}
use Rattle.script_commands.proofs.fault.fault_after_word.Goals as goal

pub overflow_sub-result : goal.overflow_sub-result
overflow_sub-result c =
    stop_fits c.args.line.now c.in-BadPart.left
    (subst (λ (s : PartFault). StopsAfterWord c.args.line.now s) c.in-BadPart.is c.requires.stop)

pub returns-in-BadPart : goal.returns-in-BadPart
returns-in-BadPart c =
    stop_place c.args.line.now c.in-BadPart.left
    (subst (λ (s : PartFault). StopsAfterWord c.args.line.now s) c.in-BadPart.is c.requires.stop)

pub returns-in-NoRoom : goal.returns-in-NoRoom
returns-in-NoRoom c =
    stop_room c.args.line.now c.requires.line
    (subst (λ (s : PartFault). StopsAfterWord c.args.line.now s) c.in-NoRoom.is c.requires.stop)
