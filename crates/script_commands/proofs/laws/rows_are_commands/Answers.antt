use Rattle.script_commands.specs.Row.{command_in}
use Rattle.script_commands.proofs.TableLemmas.{made}
use Rattle.script_commands.proofs.laws.rows_are_commands.Goals as goal

pub returns : goal.returns
returns c = λ word fields can. let m = made word fields can in (command_in word fields, m.0, m.1)
