use Rattle.rs_settings.proofs.ApartLemmas as lemmas
use Rattle.rs_settings.proofs.law.services_are_apart.Goals as goal

pub returns : goal.returns
returns c = lemmas.services_apart
