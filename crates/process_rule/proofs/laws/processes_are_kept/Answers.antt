use Rattle.process_rule.proofs.LawLemmas as lemmas
use Rattle.process_rule.proofs.laws.processes_are_kept.Goals as goal

pub returns-clause-one : goal.returns-clause-one
returns-clause-one c = lemmas.one_instance_at_a_time

pub returns-clause-alone : goal.returns-clause-alone
returns-clause-alone c = lemmas.begins_alone

pub returns-clause-left : goal.returns-clause-left
returns-clause-left c = lemmas.forgets_none

pub returns-clause-written : goal.returns-clause-written
returns-clause-written c = lemmas.generations_are_written

pub returns-clause-aimed : goal.returns-clause-aimed
returns-clause-aimed c = lemmas.signals_are_aimed

pub returns-clause-group : goal.returns-clause-group
returns-clause-group c = lemmas.groups_may_be_killed

pub returns-clause-grace : goal.returns-clause-grace
returns-clause-grace c = lemmas.grace_is_kept

pub returns-clause-deaths : goal.returns-clause-deaths
returns-clause-deaths c = lemmas.deaths_are_true

pub returns-clause-waits : goal.returns-clause-waits
returns-clause-waits c = lemmas.only_starts_wait
