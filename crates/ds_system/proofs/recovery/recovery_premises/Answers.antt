use Rattle.ds_system.proofs.RecoveryPremiseLemmas.{serving_needs, recovery_holds}
use Rattle.ds_system.proofs.recovery.recovery_premises.Goals as goal

pub returns-clause-serve : goal.returns-clause-serve
returns-clause-serve c = serving_needs

pub returns-clause-hold : goal.returns-clause-hold
returns-clause-hold c = recovery_holds
