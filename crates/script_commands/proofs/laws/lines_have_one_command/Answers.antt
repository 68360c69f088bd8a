use Rattle.script_commands.proofs.LawLemmas.{one_command}
use Rattle.script_commands.proofs.laws.lines_have_one_command.Goals as goal

pub returns : goal.returns
returns c = one_command
