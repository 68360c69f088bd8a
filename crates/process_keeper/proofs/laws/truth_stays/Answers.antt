use Rattle.process_keeper.proofs.SightLemmas.{truth_stays}
use Rattle.process_keeper.proofs.laws.truth_stays.Goals as goal

pub returns : goal.returns
returns c = truth_stays
