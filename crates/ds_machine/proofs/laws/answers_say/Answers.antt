use Rattle.ds_machine.proofs.SaysLemmas.{changed_says, found_says, named_says, merged_says}
use Rattle.ds_machine.proofs.laws.answers_say.Goals as goal

pub returns-clause-merged : goal.returns-clause-merged
returns-clause-merged c = merged_says

pub returns-clause-changed : goal.returns-clause-changed
returns-clause-changed c = changed_says

pub returns-clause-found : goal.returns-clause-found
returns-clause-found c = found_says

pub returns-clause-named : goal.returns-clause-named
returns-clause-named c = named_says
