-- The faults of a pass's calls.
use Rattle.std.specs.Prelude.{◌≡◌, ◌≢◌, ◌⊎◌, ℕ, ◌^◌, List, [], ◌∷◌, ◌++◌}
use Rattle.history.specs.declared.entry.Entry.{Entry}
use Rattle.desk.specs.declared.fault.DeskFault.{DeskFault}
use Rattle.desk.specs.declared.fault.DeskFault.TheVariants.{Worn}
use Rattle.ds_machine.specs.declared.command.Command.{Command}
use Rattle.ds_machine.specs.declared.refusal.Refusal.{Refusal}
use Rattle.ds_machine.specs.declared.refusal.Refusal.TheVariants as refusals
use Rattle.ds_machine.specs.declared.reply.Reply.{Reply}
use Rattle.ds_machine.specs.declared.reply.Reply.TheVariants as replies
use Rattle.desk_store.specs.Called.{FoundWorn, Made, MadeCall}
use Rattle.desk_store.specs.declared.call_fault.CallFault.{CallFault}
use Rattle.desk_store.specs.declared.call_fault.CallFault.TheVariants.{Desk, Refused, NoRoom}
use Rattle.desk_store.specs.Record.{PassRecord, place_after}

-- Whether the fault reports this refusal of the store: NoRoom as NoRoom, any other as Refused.
abbrev pub TellsRefusal : Refusal → CallFault → Type 0
TellsRefusal refusal fault = ((refusal ≡ refusals.NoRoom) × (fault ≡ NoRoom)) ⊎ ((refusal ≢ refusals.NoRoom) × (fault ≡ Refused refusal))

-- ---- one call

-- Whether the call of this command failed with this fault: no place is left at the desk, or the store refused the command.
abbrev pub FailsAsking : PassRecord → PassRecord → Command → CallFault → Type 0
FailsAsking p q command fault =
    ((worn : DeskFault) × FoundWorn p q worn × (fault ≡ Desk worn))
    ⊎ ((refusal : Refusal) × (place : ℕ) × MadeCall p q command (replies.Refused refusal) place × TellsRefusal refusal fault)

-- ---- several calls

-- Whether the store refused the last of these calls.
pub record EndsRefused (own : List (Entry Command Reply)) (refusal : Refusal) : Type 0 where
  pub front : List (Entry Command Reply)
  pub last : Entry Command Reply
  pub parts : own ≡ front ++ last ∷ []
  pub refused : last.reply ≡ replies.Refused refusal

-- Whether the fault ended these calls of a pass, which is q after them: no place is left at the desk, the store refused the last of them,
-- or memory ran out.
abbrev pub IsFaultAfter : PassRecord → List (Entry Command Reply) → CallFault → Type 0
IsFaultAfter q own (Desk fault) = (fault ≡ Worn) × (place_after q ≡ 2 ^ 62)
IsFaultAfter q own (Refused refusal) = (refusal ≢ refusals.NoRoom) × EndsRefused own refusal
IsFaultAfter q own NoRoom = Unit {0}

-- Whether the pass made calls from p to q, which this fault ended.
pub record FailsBy (p q : PassRecord) (fault : CallFault) : Type 0 where
  pub own : List (Entry Command Reply)
  pub made : Made p q own
  pub cause : IsFaultAfter q own fault
