use Rattle.ds_replica.proofs.CheckedLemmas.{one_by_one_is_new, checks_are_whole, checks_go_on}
use Rattle.ds_replica.proofs.laws.check_laws.Goals as goal

pub returns-clause-checks : goal.returns-clause-checks
returns-clause-checks c = checks_are_whole

pub returns-clause-accepted : goal.returns-clause-accepted
returns-clause-accepted c = one_by_one_is_new

pub returns-clause-later : goal.returns-clause-later
returns-clause-later c = checks_go_on
