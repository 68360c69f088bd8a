use Rattle.ds_machine.proofs.PlaceLemmas.{step_keeps, run_keeps, step_stamps, run_stamps, stamp_tells, subscribed_leaves, checked_leaves}
use Rattle.ds_machine.proofs.laws.subscriptions_are_kept.Goals as goal

pub returns-clause-step : goal.returns-clause-step
returns-clause-step c = step_keeps

pub returns-clause-run : goal.returns-clause-run
returns-clause-run c = run_keeps

pub returns-clause-step_stamp : goal.returns-clause-step_stamp
returns-clause-step_stamp c = step_stamps

pub returns-clause-run_stamp : goal.returns-clause-run_stamp
returns-clause-run_stamp c = run_stamps

pub returns-clause-tells : goal.returns-clause-tells
returns-clause-tells c = stamp_tells

pub returns-clause-subscribed : goal.returns-clause-subscribed
returns-clause-subscribed c = subscribed_leaves

pub returns-clause-checked : goal.returns-clause-checked
returns-clause-checked c = checked_leaves
