use Rattle.desk_store.proofs.LawLemmas.{keeps_up_later, lost_keeps_up}
use Rattle.desk_store.proofs.refresh_laws.followers_keep_up.Goals as goal

pub returns-clause-lost : goal.returns-clause-lost
returns-clause-lost c = lost_keeps_up

pub returns-clause-later : goal.returns-clause-later
returns-clause-later c = keeps_up_later
