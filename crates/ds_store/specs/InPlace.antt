-- Which commands take no memory.
use Rattle.ds_machine.specs.declared.command.Command.{Command}
use Rattle.ds_machine.specs.declared.command.Command.TheVariants.{Retrieve, NameOf}
use Rattle.ds_store.specs.Last.{IsKindInPlace}

-- The command is answered without taking memory.
abbrev pub TakesNoMemory : Command → Type 0
TakesNoMemory (Retrieve key) = IsKindInPlace key.kind
TakesNoMemory (NameOf endpoint) = Unit {0}
TakesNoMemory _ = ⊥
