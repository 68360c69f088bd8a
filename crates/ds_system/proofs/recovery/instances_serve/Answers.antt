use Rattle.ds_system.proofs.RecoveryLemmas.{instances_serve as the_law}
use Rattle.ds_system.proofs.recovery.instances_serve.Goals as goal

pub returns : goal.returns
returns c = the_law
