use Rattle.ds_line.proofs.ItemLemmas.{one_item}
use Rattle.ds_line.proofs.item_laws.items_have_one_line.Goals as goal

pub returns : goal.returns
returns c = one_item
