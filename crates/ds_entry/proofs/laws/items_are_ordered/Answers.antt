use Rattle.ds_entry.proofs.ItemLemmas.{items_total}
use Rattle.ds_entry.proofs.laws.items_are_ordered.Goals as goal

pub returns : goal.returns
returns c = items_total
