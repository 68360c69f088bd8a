use Rattle.ds_replica.proofs.WholePremiseLemmas.{snapshot_needs, since_needs, whole_needs}
use Rattle.ds_replica.proofs.premises.whole_premises.Goals as goal

pub returns-clause-snapshot : goal.returns-clause-snapshot
returns-clause-snapshot c = snapshot_needs

pub returns-clause-since : goal.returns-clause-since
returns-clause-since c = since_needs

pub returns-clause-whole : goal.returns-clause-whole
returns-clause-whole c = whole_needs
