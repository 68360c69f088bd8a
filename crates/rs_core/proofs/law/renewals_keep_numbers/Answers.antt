use Rattle.rs_core.proofs.RunLemmas as lemmas
use Rattle.rs_core.proofs.law.renewals_keep_numbers.Goals as goal

pub returns-clause-starts : goal.returns-clause-starts
returns-clause-starts c = lemmas.lives_rise

pub returns-clause-labels : goal.returns-clause-labels
returns-clause-labels c = lemmas.labels_stay_single_numbered
