use Rattle.ds_replica.proofs.HolderPremiseLemmas.{catch_up_needs, agreement_needs, labels_need, checks_need}
use Rattle.ds_replica.proofs.premises.holder_premises.Goals as goal

pub returns-clause-catch_up : goal.returns-clause-catch_up
returns-clause-catch_up c = catch_up_needs

pub returns-clause-agreement : goal.returns-clause-agreement
returns-clause-agreement c = agreement_needs

pub returns-clause-labels : goal.returns-clause-labels
returns-clause-labels c = labels_need

pub returns-clause-checks : goal.returns-clause-checks
returns-clause-checks c = checks_need
