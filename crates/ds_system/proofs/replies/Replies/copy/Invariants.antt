use Rattle.std.proofs.Common.{◌≡◌, take}
use Rattle.ds_system.proofs.replies.Replies.copy.Given as goal

abbrev pub invariant-loop-reply : goal.invariant-loop-reply
invariant-loop-reply l = l.replies.items ≡ take l.reply-index l.reply-items
