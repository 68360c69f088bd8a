use Rattle.rs_to_store.proofs.FollowLemmas.{follows_are_runs, follows_keep_units, follows_end_for_room}
use Rattle.rs_to_store.proofs.laws.follows_keep_tables.Goals as goal

pub returns-clause-runs : goal.returns-clause-runs
returns-clause-runs c = follows_are_runs

pub returns-clause-units : goal.returns-clause-units
returns-clause-units c = follows_keep_units

pub returns-clause-ends : goal.returns-clause-ends
returns-clause-ends c = follows_end_for_room
