use Rattle.std.proofs.Common.{false, get_or}
use Rattle.ds_watch.specs.Masks.{made_at}
use Rattle.ds_content.specs.Marking.{AreRemarked}
use Rattle.ds_content.proofs.content.marking.make_all.Given as goal

-- the items so far know of the subscription
abbrev pub invariant-loop-index : goal.invariant-loop-index
invariant-loop-index l = AreRemarked l.fn.held l.held l.index (λ k. made_at l.sub (get_or l.flags k false) l.fn.initial)
