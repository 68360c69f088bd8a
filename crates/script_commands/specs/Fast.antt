-- The lines that have fast readers, and the answers of these readers in terms of the general one.
use Rattle.std.specs.Prelude.{◌≡◌, ℕ, List, ◌++◌, Option, None, Some, Result, Ok, Err, codes}
use Rattle.ds_names.specs.declared.key.Key.{Key}
use Rattle.ds_entry.specs.declared.item.Item.{Item}
use Rattle.ds_machine.specs.declared.command.Command.TheVariants.{Publish, Retrieve}
use Rattle.script_commands.specs.declared.command.ScriptCommand.{ScriptCommand}
use Rattle.script_commands.specs.declared.command.ScriptCommand.TheVariants.{Offer, Store}
use Rattle.script_commands.specs.declared.fast.Publication.{Publication}

-- The line's word is `offer`, with a space after it.
abbrev pub IsOffer : List ℕ → Type 0
IsOffer line = (rest : List ℕ) × (line ≡ codes "offer " ++ rest)

-- The line's word is `publish`, with a space after it.
abbrev pub IsPublish : List ℕ → Type 0
IsPublish line = (rest : List ℕ) × (line ≡ codes "publish " ++ rest)

-- The line's word is `retrieve`, with a space after it.
abbrev pub IsRetrieve : List ℕ → Type 0
IsRetrieve line = (rest : List ℕ) × (line ≡ codes "retrieve " ++ rest)

-- The reader answers, for the offer of the item in the place, what `Answers` says of a command; or it answers the
-- fault.
abbrev pub OfPlaced : (Fault : Type 0) → (Result ScriptCommand Fault → Type 0) → Result (Unit {0}) Fault → Option Item → Type 0
OfPlaced Fault Answers (Ok done) (Some i) = Answers (Ok (Offer i))
OfPlaced Fault Answers (Ok done) None = ⊥
OfPlaced Fault Answers (Err fault) placed = Answers (Err fault)

-- The command of a publication's parts, or the fault.
abbrev pub publish_read : {Fault : Type 0} → Result Publication Fault → Result ScriptCommand Fault
publish_read (Ok p) = Ok (Store (Publish p.caller p.key p.version p.value p.overwrite))
publish_read (Err fault) = Err fault

-- The command of a retrieval's key, or the fault.
abbrev pub retrieve_read : {Fault : Type 0} → Result Key Fault → Result ScriptCommand Fault
retrieve_read (Ok key) = Ok (Store (Retrieve key))
retrieve_read (Err fault) = Err fault
