use Rattle.ds_machine.specs.declared.command.Command.TheVariants.{Retrieve}
use Rattle.script_commands.specs.declared.command.ScriptCommand.TheVariants.{Store}
use Rattle.c_rs.proofs.LinesLemmas.{carried_line, passes_retrieve}
use Rattle.c_rs.proofs.session.RsSession.call_line.Goals as goal

pub returns-in-Some : goal.returns-in-Some
returns-in-Some c =
    carried_line c.args.bytes.now (Store (Retrieve c.in-Some.key)) c.args.self.now c.fast_find.new.answer c.fast_find.new.self
    c.in-Some.ensures
    (passes_retrieve c.args.self.now.session.node.services c.in-Some.key c.args.self.now c.fast_find.new.answer c.fast_find.new.self
    c.fast_find.ensures)
