use Rattle.ds_line.proofs.ItemLemmas.{one_item_place}
use Rattle.ds_line.proofs.item_laws.item_faults_have_one_place.Goals as goal

pub returns : goal.returns
returns c = one_item_place
