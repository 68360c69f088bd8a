use Rattle.ds_line.proofs.ItemLemmas.{items_apart}
use Rattle.ds_line.proofs.item_laws.item_lines_are_apart.Goals as goal

pub returns : goal.returns
returns c = items_apart
