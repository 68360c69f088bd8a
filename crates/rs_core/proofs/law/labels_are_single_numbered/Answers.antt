use Rattle.rs_core.proofs.RunLemmas as lemmas
use Rattle.rs_core.proofs.law.labels_are_single_numbered.Goals as goal

pub returns : goal.returns
returns c = lemmas.labels_single_numbered
