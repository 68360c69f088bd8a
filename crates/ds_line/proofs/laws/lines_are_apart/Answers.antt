use Rattle.ds_line.proofs.ApartLemmas.{apart}
use Rattle.ds_line.proofs.laws.lines_are_apart.Goals as goal

pub returns : goal.returns
returns c = apart
