use Rattle.ds_machine.proofs.ReachedLemmas.{held_is_top}
use Rattle.ds_machine.proofs.KnownLemmas.{steps_stay_reached, runs_stay_reached}
use Rattle.ds_machine.proofs.laws.states_are_reached.Goals as goal

pub returns-clause-steps : goal.returns-clause-steps
returns-clause-steps c = steps_stay_reached

pub returns-clause-runs : goal.returns-clause-runs
returns-clause-runs c = runs_stay_reached

pub returns-clause-held : goal.returns-clause-held
returns-clause-held c = held_is_top
