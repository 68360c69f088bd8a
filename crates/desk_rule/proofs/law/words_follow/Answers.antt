use Rattle.desk_rule.proofs.LawLemmas.{words_follow}
use Rattle.desk_rule.proofs.law.words_follow.Goals as goal

pub returns : goal.returns
returns g c = words_follow _ _
