use Rattle.ds_machine.proofs.KnownLemmas.{accepted_floor_stands, floor_stands_over_runs}
use Rattle.ds_machine.proofs.laws.floors_stand.Goals as goal

pub returns-clause-accepted : goal.returns-clause-accepted
returns-clause-accepted c = accepted_floor_stands

pub returns-clause-runs : goal.returns-clause-runs
returns-clause-runs c = floor_stands_over_runs
