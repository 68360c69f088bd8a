use Rattle.c_store.proofs.TurnLemmas.{turns_are_runs, answered_once, requests_are_kept}
use Rattle.c_store.proofs.laws.table_calls_are_runs.Goals as goal

pub returns-clause-runs : goal.returns-clause-runs
returns-clause-runs c = turns_are_runs

pub returns-clause-once : goal.returns-clause-once
returns-clause-once c = answered_once

pub returns-clause-kept : goal.returns-clause-kept
returns-clause-kept c = requests_are_kept
