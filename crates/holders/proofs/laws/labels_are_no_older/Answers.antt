use Rattle.holders.proofs.LabelLemmas.{labels_are_no_older}
use Rattle.holders.proofs.laws.labels_are_no_older.Goals as goal

pub returns : goal.returns
returns c = labels_are_no_older
