-- The later lines of a script: like the first one, but never a `ring` line.
use Rattle.std.specs.Prelude.{◌≢◌, ℕ, List, Result}
use Rattle.script_commands.specs.Command.{IsCommand, command_word, ReadsAs}
use Rattle.script_commands.specs.declared.word.Word.TheVariants as words
use Rattle.script_commands.specs.declared.command.ScriptCommand.{ScriptCommand}
use Rattle.script_commands.specs.declared.fault.CommandFault.{CommandFault}

-- The command is valid, and allowed on a later line.
abbrev pub IsLater : ScriptCommand → Type 0
IsLater command = IsCommand command × (command_word command ≢ words.Ring)

-- The answer of the reader of a later line, newline included.
abbrev pub ReadsLater : List ℕ → Result ScriptCommand CommandFault → Type 0
ReadsLater bytes result = ReadsAs IsLater bytes result
