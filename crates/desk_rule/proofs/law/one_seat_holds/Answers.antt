use Rattle.desk_rule.proofs.LawLemmas.{one_holds}
use Rattle.desk_rule.proofs.law.one_seat_holds.Goals as goal

pub returns : goal.returns
returns g c = one_holds _ _
