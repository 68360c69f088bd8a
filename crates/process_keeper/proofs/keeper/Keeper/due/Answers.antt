use Rattle.std.proofs.Common.{ℕ, ◌<◌, subst}
use Rattle.process_keeper.proofs.WakingLemmas.{settled_until_due}
use Rattle.process_keeper.proofs.keeper.Keeper.due.Goals as goal

pub returns-clause-rest : goal.returns-clause-rest
returns-clause-rest c = λ t m h.
    settled_until_due c.args.self.now.labels.items c.args.now t (subst (λ (n : ℕ). t < n) c.first_due.ensures m) h
