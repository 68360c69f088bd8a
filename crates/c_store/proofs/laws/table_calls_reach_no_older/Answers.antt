use Rattle.c_store.proofs.TurnLemmas.{goes_to_no_older_instance, none_goes_to_older_instance}
use Rattle.c_store.proofs.laws.table_calls_reach_no_older.Goals as goal

pub returns-clause-each : goal.returns-clause-each
returns-clause-each c = goes_to_no_older_instance

pub returns-clause-run : goal.returns-clause-run
returns-clause-run c = none_goes_to_older_instance
