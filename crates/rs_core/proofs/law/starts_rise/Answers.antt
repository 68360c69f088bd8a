use Rattle.rs_core.proofs.RunLemmas as lemmas
use Rattle.rs_core.proofs.law.starts_rise.Goals as goal

pub returns : goal.returns
returns c = lemmas.starts_rise
