use Rattle.ds_machine.proofs.EffectLemmas.{step_has_effect, sweep_learns_effect}
use Rattle.ds_machine.proofs.KnownLemmas.{goes_on_same, goes_on_later, steps_go_on, runs_go_on, learnt_is_held, known_stays_held}
use Rattle.ds_machine.proofs.laws.steps_have_effects.Goals as goal

pub returns-clause-effect : goal.returns-clause-effect
returns-clause-effect c = step_has_effect

pub returns-clause-raised : goal.returns-clause-raised
returns-clause-raised c = sweep_learns_effect

pub returns-clause-goes_on : goal.returns-clause-goes_on
returns-clause-goes_on c = steps_go_on

pub returns-clause-runs : goal.returns-clause-runs
returns-clause-runs c = runs_go_on

pub returns-clause-learnt : goal.returns-clause-learnt
returns-clause-learnt c = learnt_is_held

pub returns-clause-known : goal.returns-clause-known
returns-clause-known c = known_stays_held

pub returns-clause-same : goal.returns-clause-same
returns-clause-same c = goes_on_same

pub returns-clause-later : goal.returns-clause-later
returns-clause-later c = goes_on_later
