use Rattle.ds_system.proofs.RecoveryLemmas.{drivers_recover as the_law}
use Rattle.ds_system.proofs.recovery.drivers_recover.Goals as goal

pub returns : goal.returns
returns c = the_law
