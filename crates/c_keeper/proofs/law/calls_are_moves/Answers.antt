use Rattle.c_keeper.proofs.MoveLemmas.{kept_calls_are_moves, kept_sessions_agree}
use Rattle.c_keeper.proofs.law.calls_are_moves.Goals as goal

pub returns-clause-moves : goal.returns-clause-moves
returns-clause-moves c = kept_calls_are_moves

pub returns-clause-agree : goal.returns-clause-agree
returns-clause-agree c = kept_sessions_agree
