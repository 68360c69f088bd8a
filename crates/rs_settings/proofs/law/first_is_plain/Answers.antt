use Rattle.rs_settings.proofs.PlainLemmas as lemmas
use Rattle.rs_settings.proofs.law.first_is_plain.Goals as goal

pub returns : goal.returns
returns c = lemmas.first_is_plain
