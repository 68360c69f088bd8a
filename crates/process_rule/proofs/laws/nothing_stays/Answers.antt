use Rattle.process_rule.proofs.ProgressLemmas as lemmas
use Rattle.process_rule.proofs.laws.nothing_stays.Goals as goal

pub returns-clause-dead : goal.returns-clause-dead
returns-clause-dead c = lemmas.dead_stays

pub returns-clause-empty : goal.returns-clause-empty
returns-clause-empty c = lemmas.empty_stays

pub returns-clause-killed : goal.returns-clause-killed
returns-clause-killed c = lemmas.killed_stays

pub returns-clause-stays : goal.returns-clause-stays
returns-clause-stays c = lemmas.nothing_stays

pub returns-clause-grace : goal.returns-clause-grace
returns-clause-grace c = lemmas.grace_lasts

pub returns-clause-pending : goal.returns-clause-pending
returns-clause-pending c = lemmas.pending_stays

pub returns-clause-starts : goal.returns-clause-starts
returns-clause-starts c = lemmas.starts_go_on
