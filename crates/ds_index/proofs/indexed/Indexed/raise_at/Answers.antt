use Rattle.ds_index.proofs.HolderLemmas.{raised_kept}
use Rattle.ds_index.proofs.indexed.Indexed.raise_at.Goals as goal

pub invariant_of-self : goal.invariant_of-self
invariant_of-self g c =
    raised_kept c.self.inside.marked c.raise_at.new.self c.args.floor c.args.mark c.raise_at.result c.self.inside.index.names
    c.held-held.ensures.sound c.self.invariant c.raise_at.ensures.raised c.raise_at.ensures.same
