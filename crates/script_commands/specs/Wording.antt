-- The wording of a line's reply.
use Rattle.script_answers.specs.declared.wording.Wording.{Wording}
use Rattle.script_answers.specs.declared.wording.Wording.TheVariants.{AsOffer, AsMerge}
use Rattle.script_commands.specs.declared.command.ScriptCommand.{ScriptCommand}
use Rattle.script_commands.specs.declared.command.ScriptCommand.TheVariants as asked

-- An offer's Merge is answered by the outcome of its one item, another command's by its counts.
abbrev pub wording : ScriptCommand → Wording
wording (asked.Offer i) = AsOffer
wording _ = AsMerge
