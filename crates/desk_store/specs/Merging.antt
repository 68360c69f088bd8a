-- The reasons why a Merge didn't do all of its items.
use Rattle.std.specs.Prelude.{◌≡◌, ℕ}
use Rattle.ds_machine.specs.declared.command.Command.{Command}
use Rattle.ds_machine.specs.declared.refusal.Refusal.{Refusal}
use Rattle.ds_machine.specs.declared.reply.Reply.{Reply}
use Rattle.ds_machine.specs.declared.reply.Reply.TheVariants as replies
use Rattle.desk_store.specs.Called.{FoundWorn, MadeCall}
use Rattle.desk_store.specs.Record.{PassRecord}
use Rattle.desk_store.specs.declared.merging.MergeFault.{MergeFault}
use Rattle.desk_store.specs.declared.merging.MergeFault.TheVariants.{Desk, Stopped}

-- Whether the reply stopped a Merge after `done` items with this cause, or refused the whole Merge.
abbrev pub IsStoppedBy : Reply → ℕ → Refusal → Type 0
IsStoppedBy (replies.MergeStopped items cause owed) done fault = (done ≡ items) × (fault ≡ cause)
IsStoppedBy (replies.Refused cause) done fault = (done ≡ 0) × (fault ≡ cause)
IsStoppedBy _ done fault = ⊥

-- Whether the Merge failed with this fault: no place is left at the desk, or the store stopped it.
abbrev pub FailsMerging : PassRecord → PassRecord → Command → MergeFault → Type 0
FailsMerging p q command (Desk fault) = FoundWorn p q fault
FailsMerging p q command (Stopped done fault) =
    (reply : Reply) × (place : ℕ) × MadeCall p q command reply place × IsStoppedBy reply done fault
