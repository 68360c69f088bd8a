use Rattle.desk_store.proofs.MergedLemmas.{held_stays}
use Rattle.desk_store.proofs.map_laws.merged_items_stay.Goals as goal

pub returns : goal.returns
returns c = held_stays
