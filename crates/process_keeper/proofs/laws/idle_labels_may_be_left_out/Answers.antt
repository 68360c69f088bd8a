use Rattle.process_keeper.proofs.EventLemmas.{idle_may_be_left_out}
use Rattle.process_keeper.proofs.laws.idle_labels_may_be_left_out.Goals as goal

pub returns : goal.returns
returns c = idle_may_be_left_out
