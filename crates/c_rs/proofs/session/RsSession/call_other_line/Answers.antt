use Rattle.ds_machine.specs.declared.command.Command.TheVariants.{NameOf}
use Rattle.script_commands.specs.declared.command.ScriptCommand.TheVariants.{Store}
use Rattle.c_rs.proofs.LinesLemmas.{carried_line, passes_name}
use Rattle.c_rs.proofs.session.RsSession.call_other_line.Goals as goal

pub returns-in-Some : goal.returns-in-Some
returns-in-Some c =
    carried_line c.args.bytes.now (Store (NameOf c.in-Some.endpoint)) c.args.self.now c.fast_name.new.answer c.fast_name.new.self
    c.in-Some.ensures
    (passes_name c.args.self.now.session.node.services c.in-Some.endpoint c.args.self.now c.fast_name.new.answer c.fast_name.new.self
    c.fast_name.ensures)
