use Rattle.script_commands.proofs.ProperLemmas.{lines_are_proper}
use Rattle.script_commands.proofs.laws.lines_are_proper.Goals as goal

pub returns : goal.returns
returns c = lines_are_proper
