use Rattle.ds_replica.proofs.PagePremiseLemmas.{pages_need}
use Rattle.ds_replica.proofs.premises.page_premises.Goals as goal

pub returns : goal.returns
returns c = pages_need
