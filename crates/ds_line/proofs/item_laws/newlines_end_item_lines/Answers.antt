use Rattle.ds_line.proofs.ItemLemmas.{item_ends}
use Rattle.ds_line.proofs.item_laws.newlines_end_item_lines.Goals as goal

pub returns : goal.returns
returns c = item_ends
