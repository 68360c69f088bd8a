use Rattle.ds_line.proofs.ApartLemmas.{one_change}
use Rattle.ds_line.proofs.laws.changes_have_one_line.Goals as goal

pub returns : goal.returns
returns c = one_change
