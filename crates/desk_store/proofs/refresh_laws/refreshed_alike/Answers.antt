use Rattle.desk_store.proofs.LawLemmas.{alike}
use Rattle.desk_store.proofs.refresh_laws.refreshed_alike.Goals as goal

pub returns : goal.returns
returns c = alike
