-- The subscriptions to which a reply owes a notice.
use Rattle.std.specs.Prelude.{ℕ, List, Option, Some, None, bit_or}
use Rattle.std.specs.List.{fold}
use Rattle.ds_machine.specs.declared.reply.Reply.{Reply}
use Rattle.ds_machine.specs.Owed.{owed_by}
use Rattle.rs_store.specs.declared.call.RsReply.{RsReply}
use Rattle.rs_store.specs.declared.call.RsReply.TheVariants.{Replied, Acted}

-- The mask of a reply, if there is one.
abbrev pub owed_by_one : Option Reply → ℕ
owed_by_one None = 0
owed_by_one (Some reply) = owed_by reply

-- The mask with that of one more reply.
abbrev pub owed_with : ℕ → Option Reply → ℕ
owed_with owed reply = bit_or owed (owed_by_one reply)

-- The mask of all of the replies together.
abbrev pub owed_by_all : List (Option Reply) → ℕ
owed_by_all replies = fold owed_with 0 replies

-- The mask of a reply of RS and its store: that of all of the store's replies in it.
abbrev pub owed_in : RsReply → ℕ
owed_in (Replied reply) = owed_by reply
owed_in (Acted actions replies given) = owed_by_all replies
owed_in _ = 0
