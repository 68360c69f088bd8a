-- Commands that aren't answered.
use Rattle.ds_machine.specs.State.{State}
use Rattle.ds_machine.specs.declared.command.Command.{Command}
use Rattle.ds_machine.specs.declared.reply.Reply.TheVariants as replies
use Rattle.ds_reader.specs.Asked.{GetsReply, OthersAsked}
use Rattle.ds_reader.specs.declared.fault.ReadFault.{ReadFault}
use Rattle.ds_reader.specs.declared.fault.ReadFault.TheVariants.{Refused, Worn}

-- The command was refused for this cause, or no command can be sent any more and only others used the store.
abbrev pub StopsThere : {A : Type 0} → (A → State → Type 0) → (A → Type 0) → A → Command → ReadFault → A → Type 0
StopsThere stands worn old command (Refused refusal) new = GetsReply stands old command (replies.Refused refusal) new
StopsThere stands worn old command Worn new = worn new × OthersAsked stands old new
StopsThere stands worn old command _ new = ⊥
