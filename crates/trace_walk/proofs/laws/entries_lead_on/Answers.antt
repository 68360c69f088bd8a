use Rattle.trace_walk.proofs.EntryLemmas.{entries_lead}
use Rattle.trace_walk.proofs.laws.entries_lead_on.Goals as goal

pub returns : goal.returns
returns c = entries_lead
