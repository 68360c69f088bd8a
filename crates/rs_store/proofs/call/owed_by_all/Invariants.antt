use Rattle.std.proofs.Common.{◌≡◌, take}
use Rattle.rs_store.specs.Owed.{owed_by_all}
use Rattle.rs_store.proofs.call.owed_by_all.Given as goal

-- the mask of the replies so far
abbrev pub invariant-loop-reply : goal.invariant-loop-reply
invariant-loop-reply l = l.owed ≡ owed_by_all (take l.reply-index l.replies)
