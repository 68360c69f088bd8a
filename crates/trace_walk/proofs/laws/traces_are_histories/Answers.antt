use Rattle.trace_walk.proofs.HistoryLemmas.{run_is_legal, legal_is_history}
use Rattle.trace_walk.proofs.laws.traces_are_histories.Goals as goal

pub returns : goal.returns
returns c = record { legal = run_is_legal; history = legal_is_history }
