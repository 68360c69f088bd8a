use Rattle.supervisor.proofs.AgreeLemmas.{leaders_stay}
use Rattle.supervisor.proofs.NameLemmas.{named_leaders_stay}
use Rattle.supervisor.proofs.laws.leaders_stay.Goals as goal

pub returns-clause-numbered : goal.returns-clause-numbered
returns-clause-numbered c = leaders_stay

pub returns-clause-named : goal.returns-clause-named
returns-clause-named c = named_leaders_stay
