use Rattle.desk_rule.proofs.LawLemmas.{balances}
use Rattle.desk_rule.proofs.law.notices_balance.Goals as goal

pub returns : goal.returns
returns g c = balances _ _
