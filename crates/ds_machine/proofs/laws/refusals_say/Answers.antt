use Rattle.ds_machine.proofs.SaysLemmas.{refused_says, merge_stopped_says}
use Rattle.ds_machine.proofs.laws.refusals_say.Goals as goal

pub returns-clause-refused : goal.returns-clause-refused
returns-clause-refused c = refused_says

pub returns-clause-stopped : goal.returns-clause-stopped
returns-clause-stopped c = merge_stopped_says
