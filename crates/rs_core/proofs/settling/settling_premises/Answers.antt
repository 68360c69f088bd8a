use Rattle.rs_core.proofs.SettlingPremiseLemmas as lemmas
use Rattle.rs_core.proofs.settling.settling_premises.Goals as goal

pub returns-clause-settle : goal.returns-clause-settle
returns-clause-settle c = lemmas.settling_needs

pub returns-clause-exist : goal.returns-clause-exist
returns-clause-exist c = lemmas.existence_needs

pub returns-clause-recover : goal.returns-clause-recover
returns-clause-recover c = lemmas.recovery_needs

pub returns-clause-hold : goal.returns-clause-hold
returns-clause-hold c = lemmas.recovery_happens
