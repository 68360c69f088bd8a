use Rattle.desk_rule.proofs.LawLemmas.{notices_agree}
use Rattle.desk_rule.proofs.law.notices_agree.Goals as goal

pub returns : goal.returns
returns g c = notices_agree _ _
