use Rattle.ds_system.proofs.LawLemmas.{systems_keep_laws}
use Rattle.ds_system.proofs.StartLemmas.{new_systems_exist}
use Rattle.ds_system.proofs.laws.systems_keep_laws.Goals as goal

pub returns-clause-start : goal.returns-clause-start
returns-clause-start c = new_systems_exist

pub returns-clause-laws : goal.returns-clause-laws
returns-clause-laws c = systems_keep_laws
