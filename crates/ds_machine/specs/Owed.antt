-- Which subscriptions a reply owes a notice.
use Rattle.std.specs.Prelude.{ℕ}
use Rattle.ds_machine.specs.declared.reply.Reply.{Reply}
use Rattle.ds_machine.specs.declared.reply.Reply.TheVariants.{Changed, Swept, Subscribed, Merged, MergeStopped}

-- The mask of subscriptions owed a notice, or 0 for a reply without a mask.
abbrev pub owed_by : Reply → ℕ
owed_by (Changed owed) = owed
owed_by (Swept count owed) = owed
owed_by (Subscribed stamp owed) = owed
owed_by (Merged done taken stale owed) = owed
owed_by (MergeStopped done fault owed) = owed
owed_by _ = 0
