use Rattle.std.proofs.Common.{[], sym, subst}
use Rattle.ds_held.specs.Kept.{AreKept}
use Rattle.ds_held.proofs.KeptLemmas.{kept_nothing}
use Rattle.ds_held.proofs.held.Held.clear.Goals as goal

pub invariant_of-self : goal.invariant_of-self
invariant_of-self c =
    subst (λ l. AreKept l c.clear-2.new.self c.self.inside.limits) (sym c.clear.ensures.items)
    (subst (λ l. AreKept [] l c.self.inside.limits) (sym c.clear-2.ensures) (kept_nothing c.self.inside.limits))

pub returns-clause-sound : goal.returns-clause-sound
returns-clause-sound c =
    (subst (λ l. AreKept l c.clear-2.new.self c.self.inside.limits) (sym c.clear.ensures.items)
    (subst (λ l. AreKept [] l c.self.inside.limits) (sym c.clear-2.ensures) (kept_nothing c.self.inside.limits))).sound
