use Rattle.rs_core.proofs.SettlingLemmas as lemmas
use Rattle.rs_core.proofs.settling.services_recover.Goals as goal

pub returns-clause-pauses : goal.returns-clause-pauses
returns-clause-pauses c = lemmas.pauses_are_short

pub returns-clause-recover : goal.returns-clause-recover
returns-clause-recover c = lemmas.services_recover
