use Rattle.ds_store.proofs.LastLemmas.{last}
use Rattle.ds_store.proofs.laws.outcomes_have_room.Goals as goal

pub returns : goal.returns
returns c = last
