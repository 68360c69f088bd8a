use Rattle.rs_core.proofs.SettlingLemmas as lemmas
use Rattle.rs_core.proofs.settling.ticks_settle.Goals as goal

pub returns-clause-settle : goal.returns-clause-settle
returns-clause-settle c = lemmas.ticks_settle

pub returns-clause-exist : goal.returns-clause-exist
returns-clause-exist c = lemmas.ticks_can_settle
