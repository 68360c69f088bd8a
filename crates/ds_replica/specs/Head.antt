-- What a reply with items has besides its items.
use Rattle.std.specs.Prelude.{◌≡◌, List}
use Rattle.ds_entry.specs.declared.item.Item.{Item}
use Rattle.ds_machine.specs.Given.{shown_by}
use Rattle.ds_machine.specs.declared.reply.Reply.{Reply}
use Rattle.ds_machine.specs.declared.reply.Reply.TheVariants as replies
use Rattle.ds_replica.specs.declared.head.Head.{Head}
use Rattle.ds_replica.specs.declared.head.Head.TheVariants.{Checked, Journaled, Snapped, Paged}

-- The reply with these items.
abbrev pub reply_with : Head → List Item → Reply
reply_with (Checked before after) items = replies.Checked items before after
reply_with (Journaled cursor) items = replies.Journaled (record { items = items; cursor = cursor })
reply_with (Snapped cursor) items = replies.Snapped (record { items = items; cursor = cursor })
reply_with (Paged last cursor) items = replies.Paged (record { items = items; last = last; cursor = cursor })

-- The head, with the reply's items, makes this reply.
abbrev pub IsHead : Head → Reply → Type 0
IsHead head reply = reply_with head (shown_by reply) ≡ reply
