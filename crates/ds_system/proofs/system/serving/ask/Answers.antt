use Rattle.std.proofs.Common.{◌∙◌, sym}
use Rattle.ds_system.proofs.ServeLemmas.{plain_command}
use Rattle.ds_system.proofs.system.serving.ask.Goals as goal

pub reply-requires : goal.reply-requires
reply-requires c = plain_command c.args.action.now c.in-Some.command (sym c.in-Some.is ∙ c.command_of.ensures)
