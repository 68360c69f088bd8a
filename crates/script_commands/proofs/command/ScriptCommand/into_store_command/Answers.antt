use Rattle.script_commands.proofs.AskingLemmas.{asks_nothing}
use Rattle.script_commands.proofs.command.ScriptCommand.into_store_command.Goals as goal

pub returns : goal.returns
returns c = record { command = asks_nothing c.args.self c.in_default.not-Offer c.in_default.not-Store; room = tt }
