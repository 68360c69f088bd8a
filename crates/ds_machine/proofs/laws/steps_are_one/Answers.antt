use Rattle.ds_machine.proofs.OneStepLemmas.{steps_one, outcomes_take_none, one_item}
use Rattle.ds_machine.proofs.laws.steps_are_one.Goals as goal

pub returns : goal.returns
returns c = record { one = steps_one; outcome = outcomes_take_none; single = one_item }
