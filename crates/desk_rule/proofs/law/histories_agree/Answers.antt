use Rattle.desk_rule.proofs.LawLemmas.{agree}
use Rattle.desk_rule.proofs.law.histories_agree.Goals as goal

pub returns : goal.returns
returns g c = agree _ _
