use Rattle.std.proofs.Common.{arith}
use Rattle.ds_world.proofs.CopyLemmas.{copied_more}
use Rattle.ds_system.proofs.replies.Replies.copy.Goals as goal

pub loop-reply-preserved : goal.loop-reply-preserved
loop-reply-preserved c =
    copied_more _ c.loop-reply.replies.items _ c.loop-reply.reply-index c.reply-item.result c.in_ok-copy.field-0 (omega arith)
    c.loop-reply.invariant c.in_ok-push.ensures.items c.in_ok-copy.ensures.same c.reply-item.is
