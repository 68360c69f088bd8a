use Rattle.supervisor.proofs.AgreeLemmas.{supervisors_agree, one_is_counted, deaths_are_final, vouched_are_heard}
use Rattle.supervisor.proofs.laws.supervisors_agree.Goals as goal

pub returns-clause-agree : goal.returns-clause-agree
returns-clause-agree c = supervisors_agree

pub returns-clause-one : goal.returns-clause-one
returns-clause-one c = one_is_counted

pub returns-clause-deaths : goal.returns-clause-deaths
returns-clause-deaths c = deaths_are_final

pub returns-clause-vouched : goal.returns-clause-vouched
returns-clause-vouched c = vouched_are_heard
