use Rattle.rs_core.proofs.SaysLemmas as lemmas
use Rattle.rs_core.proofs.law.steps_say.Goals as goal

pub returns-clause-steps : goal.returns-clause-steps
returns-clause-steps c = lemmas.steps_say

pub returns-clause-quiet : goal.returns-clause-quiet
returns-clause-quiet c = lemmas.quiet_steps

pub returns-clause-labels : goal.returns-clause-labels
returns-clause-labels c = lemmas.labels_found
