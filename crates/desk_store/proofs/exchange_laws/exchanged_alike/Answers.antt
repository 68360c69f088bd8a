use Rattle.desk_store.proofs.BothLemmas.{exchanged_both}
use Rattle.desk_store.proofs.exchange_laws.exchanged_alike.Goals as goal

pub returns : goal.returns
returns c = exchanged_both c.answers_say.ensures.paged
