use Rattle.ds_machine.proofs.WithinLemmas.{opening_is_within, steps_stay_within, runs_stay_within}
use Rattle.ds_machine.proofs.laws.limits_are_kept.Goals as goal

pub returns-clause-opening : goal.returns-clause-opening
returns-clause-opening c = opening_is_within

pub returns-clause-steps : goal.returns-clause-steps
returns-clause-steps c = steps_stay_within

pub returns-clause-runs : goal.returns-clause-runs
returns-clause-runs c = runs_stay_within
