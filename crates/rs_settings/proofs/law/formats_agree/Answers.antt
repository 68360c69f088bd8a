use Rattle.rs_settings.proofs.FormatLemmas as lemmas
use Rattle.rs_settings.proofs.law.formats_agree.Goals as goal

pub returns : goal.returns
returns c = lemmas.formats_agree
