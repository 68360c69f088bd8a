use Rattle.ds_line.proofs.PlaceLemmas.{one_change_place}
use Rattle.ds_line.proofs.laws.faults_have_one_place.Goals as goal

pub returns : goal.returns
returns c = one_change_place
