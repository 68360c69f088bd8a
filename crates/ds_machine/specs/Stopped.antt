-- The refusal for what stops a join.
use Rattle.ds_join.specs.declared.merge.JoinFault.{JoinFault}
use Rattle.ds_join.specs.declared.merge.JoinFault.TheVariants as joins
use Rattle.ds_machine.specs.declared.refusal.Refusal.{Refusal}
use Rattle.ds_machine.specs.declared.refusal.Refusal.TheVariants as refusals

-- The refusal with which a Merge stops at an item that a holder refuses for this fault.
abbrev pub refusal_of_join : JoinFault → Refusal
refusal_of_join joins.NotOwner = refusals.NotOwner
refusal_of_join (joins.Clash version) = refusals.Clash version
refusal_of_join joins.Full = refusals.Full
refusal_of_join joins.NoRoom = refusals.NoRoom
