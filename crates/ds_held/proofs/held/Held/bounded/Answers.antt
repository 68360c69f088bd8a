use Rattle.std.proofs.Common.{[], sym, subst}
use Rattle.ds_held.specs.Kept.{AreKept}
use Rattle.ds_held.proofs.KeptLemmas.{kept_nothing}
use Rattle.ds_held.proofs.held.Held.bounded.Goals as goal

pub invariant_of-result : goal.invariant_of-result
invariant_of-result c =
    subst (λ l. AreKept l c.new-2.result c.args.limits) (sym c.new.ensures.items)
    (subst (λ l. AreKept [] l c.args.limits) (sym c.new-2.ensures) (kept_nothing c.args.limits))
