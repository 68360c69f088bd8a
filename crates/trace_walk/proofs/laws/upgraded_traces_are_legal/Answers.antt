use Rattle.trace_walk.proofs.UpgradeLemmas.{upgraded_is_legal}
use Rattle.trace_walk.proofs.laws.upgraded_traces_are_legal.Goals as goal

pub returns : goal.returns
returns c = upgraded_is_legal
