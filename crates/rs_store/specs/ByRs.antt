-- Commands in RS's name.
use Rattle.std.specs.Prelude.{Bool, false}
use Rattle.ds_names.specs.Endpoint.{is_rs}
use Rattle.ds_machine.specs.declared.command.Command.{Command}
use Rattle.ds_machine.specs.declared.command.Command.TheVariants.{Publish, Delete, Sweep}

-- Whether the command's caller is RS; only these three commands have a caller.
abbrev pub is_by_rs : Command → Bool
is_by_rs (Publish caller key version value overwrite) = is_rs caller
is_by_rs (Delete caller key version) = is_rs caller
is_by_rs (Sweep caller owner generation) = is_rs caller
is_by_rs _ = false
