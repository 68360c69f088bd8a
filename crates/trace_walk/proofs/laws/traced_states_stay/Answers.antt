use Rattle.trace_walk.proofs.TracedLemmas.{traced_stays}
use Rattle.trace_walk.proofs.laws.traced_states_stay.Goals as goal

pub returns : goal.returns
returns c = traced_stays
