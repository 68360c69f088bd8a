use Rattle.desk_rule.proofs.OrderLemmas.{posted_stays}
use Rattle.desk_rule.proofs.law.posted_bits_stay.Goals as goal

pub returns : goal.returns
returns g = posted_stays
