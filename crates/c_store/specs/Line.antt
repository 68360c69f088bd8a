-- The lines of bytes, and their commands.
use Rattle.std.specs.Prelude.{◌≡◌, ◌≢◌, ◌⊎◌, ℕ, ◌+◌, List, [], ◌++◌, length, Result, Ok, Err}
use Rattle.line_io.specs.Lines.{IsUnbroken, with_newline}
use Rattle.script_commands.specs.declared.command.ScriptCommand.{ScriptCommand}
use Rattle.script_commands.specs.declared.fault.CommandFault.{CommandFault}
use Rattle.script_commands.specs.declared.fault.CommandFault.TheVariants.{BadLine, NoRoom}
use Rattle.script_commands.specs.Command.{IsLineOf, IsBadLine, CommandTakesMemory}

-- Whether the bytes are the line, whose newline may be missing.
pub record IsLineIn (bytes line : List ℕ) : Type 0 where
  pub unbroken : IsUnbroken line
  pub text : (bytes ≡ line) ⊎ (bytes ≡ with_newline line)

-- Whether there is more after the first line, from the place on.
pub record IsBroken (bytes : List ℕ) (place : ℕ) : Type 0 where
  pub line : List ℕ
  pub rest : List ℕ
  pub unbroken : IsUnbroken line
  pub text : bytes ≡ with_newline line ++ rest
  pub more : rest ≢ []
  pub place_is : place ≡ length line + 1

-- Whether the bytes are the line of the command.
pub record IsCommandIn (bytes : List ℕ) (command : ScriptCommand) : Type 0 where
  pub line : List ℕ
  pub is : IsLineIn bytes line
  pub stands : IsLineOf command line

-- Whether the bytes are bad from the place on: there is more after the first line, or the line is bad there.
abbrev pub IsBadIn : List ℕ → ℕ → Type 0
IsBadIn bytes place = IsBroken bytes place ⊎ ((line : List ℕ) × IsLineIn bytes line × IsBadLine line place)

-- The result of reading the bytes.
abbrev pub ReadsBytes : List ℕ → Result ScriptCommand CommandFault → Type 0
ReadsBytes bytes (Ok command) = IsCommandIn bytes command
ReadsBytes bytes (Err (BadLine place expected)) = IsBadIn bytes place
ReadsBytes bytes (Err NoRoom) = (command : ScriptCommand) × IsCommandIn bytes command × CommandTakesMemory command
