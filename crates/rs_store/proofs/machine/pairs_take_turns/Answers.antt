use Rattle.rs_store.proofs.LawLemmas.{histories_keep_labels, pairs_settle, rs_alone, rs_turns_run, store_turns_run}
use Rattle.rs_store.proofs.machine.pairs_take_turns.Goals as goal

pub returns-clause-store : goal.returns-clause-store
returns-clause-store c = store_turns_run

pub returns-clause-services : goal.returns-clause-services
returns-clause-services c = rs_turns_run

pub returns-clause-labels : goal.returns-clause-labels
returns-clause-labels c = histories_keep_labels

pub returns-clause-alone : goal.returns-clause-alone
returns-clause-alone c = rs_alone

pub returns-clause-settle : goal.returns-clause-settle
returns-clause-settle c = pairs_settle
