use Rattle.ds_machine.proofs.SaysLemmas.{owed_fits, owed_tells}
use Rattle.ds_machine.proofs.FitLemmas.{replies_fit}
use Rattle.ds_machine.proofs.laws.answers_fit.Goals as goal

pub returns-clause-replies : goal.returns-clause-replies
returns-clause-replies c = replies_fit

pub returns-clause-owed : goal.returns-clause-owed
returns-clause-owed c = owed_fits

pub returns-clause-bits : goal.returns-clause-bits
returns-clause-bits c = owed_tells
