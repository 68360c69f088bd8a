-- Lines whose word is known and of which the rest is read.
use Rattle.std.specs.Prelude.{◌≡◌, ℕ, List, ◌∷◌, ◌++◌, Err}
use Rattle.std.specs.Char.{is_ascii_alphanumeric}
use Rattle.ds_names.specs.Run.{Begins}
use Rattle.ds_line.specs.declared.part_fault.PartFault.{PartFault}
use Rattle.script_commands.specs.declared.word.Word.{Word}
use Rattle.script_commands.specs.Row.{TakesRow}
use Rattle.script_commands.specs.Words.{text_of}

-- The word is at the front of the line, with a space after it.
abbrev pub HasWord : Word → List ℕ → Type 0
HasWord w line = (rest : List ℕ) × (line ≡ text_of w ++ 32 ∷ rest)

-- A word is at the front, and the reader of what follows stops with this fault.
abbrev pub StopsAfterWord : List ℕ → PartFault → Type 0
StopsAfterWord line stop =
    (w : Word) × (bytes : List ℕ) × Begins is_ascii_alphanumeric line (text_of w) bytes × TakesRow w bytes (Err stop)
