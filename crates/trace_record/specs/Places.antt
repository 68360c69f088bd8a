-- The place of a fault of a script's line.
use Rattle.std.specs.Prelude.{◌≡◌, ℕ}
use Rattle.script_commands.specs.declared.fault.CommandFault.{CommandFault}
use Rattle.script_commands.specs.declared.fault.CommandFault.TheVariants.{BadLine, NoRoom}

-- The place that the fault has; out of memory has the first byte.
abbrev pub IsPlaceOfFault : CommandFault → ℕ → Type 0
IsPlaceOfFault (BadLine at expected) place = place ≡ at
IsPlaceOfFault NoRoom place = place ≡ 0
