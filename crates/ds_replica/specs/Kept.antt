-- The reply of a message.
use Rattle.ds_machine.specs.declared.reply.Reply.{Reply}
use Rattle.ds_replica.specs.Head.{reply_with}
use Rattle.ds_replica.specs.declared.message.Kept.{Kept}
use Rattle.ds_replica.specs.declared.message.Kept.TheVariants.{Whole, Packed}

-- The reply that is kept so.
abbrev pub reply_kept : Kept → Reply
reply_kept (Whole reply) = reply
reply_kept (Packed head items) = reply_with head items
