use Rattle.ds_replica.proofs.LabelLemmas.{nothing_older, no_older_label, labels_are_newest}
use Rattle.ds_replica.proofs.laws.label_laws.Goals as goal

pub returns-clause-older : goal.returns-clause-older
returns-clause-older c = nothing_older

pub returns-clause-older_label : goal.returns-clause-older_label
returns-clause-older_label c = no_older_label

pub returns-clause-newest : goal.returns-clause-newest
returns-clause-newest c = labels_are_newest
