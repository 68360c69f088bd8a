use Rattle.desk_rule.proofs.LawLemmas.{owed_bits}
use Rattle.desk_rule.proofs.law.bits_are_owed.Goals as goal

pub returns : goal.returns
returns g c = owed_bits _ _
