use Rattle.ds_replica.proofs.JournalLemmas.{fewer_reach_the_end}
use Rattle.ds_replica.proofs.TakenLemmas.{checks_grow, sinces_grow, checked_is_whole}
use Rattle.ds_replica.proofs.OpenPageLemmas.{pages_grow, paged_is_whole}
use Rattle.ds_replica.proofs.laws.turn_laws.Goals as goal

pub returns-clause-checks : goal.returns-clause-checks
returns-clause-checks c = checks_grow

pub returns-clause-sinces : goal.returns-clause-sinces
returns-clause-sinces c = sinces_grow

pub returns-clause-pages : goal.returns-clause-pages
returns-clause-pages c = pages_grow

pub returns-clause-ends : goal.returns-clause-ends
returns-clause-ends c = fewer_reach_the_end

pub returns-clause-checked : goal.returns-clause-checked
returns-clause-checked c = checked_is_whole

pub returns-clause-paged : goal.returns-clause-paged
returns-clause-paged c = paged_is_whole
