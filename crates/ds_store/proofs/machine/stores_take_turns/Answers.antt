use Rattle.ds_store.proofs.TurnLemmas.{histories_run, turns_run, turns_answer}
use Rattle.ds_store.proofs.SettledLemmas.{replies_settle, histories_settle}
use Rattle.ds_store.proofs.machine.stores_take_turns.Goals as goal

pub returns-clause-run : goal.returns-clause-run
returns-clause-run c = turns_run

pub returns-clause-answered : goal.returns-clause-answered
returns-clause-answered c = turns_answer

pub returns-clause-settle : goal.returns-clause-settle
returns-clause-settle c = replies_settle

pub returns-clause-histories_settle : goal.returns-clause-histories_settle
returns-clause-histories_settle c = histories_settle

pub returns-clause-histories_run : goal.returns-clause-histories_run
returns-clause-histories_run c = histories_run
