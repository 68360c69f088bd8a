use Rattle.ds_replica.proofs.PageLemmas.{pages_are_whole}
use Rattle.ds_replica.proofs.laws.page_laws.Goals as goal

pub returns : goal.returns
returns c = record { pages = pages_are_whole }
