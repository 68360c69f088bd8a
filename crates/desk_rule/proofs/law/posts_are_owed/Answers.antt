use Rattle.desk_rule.proofs.LawLemmas.{owed_posts}
use Rattle.desk_rule.proofs.law.posts_are_owed.Goals as goal

pub returns : goal.returns
returns g c = owed_posts _ _
