use Rattle.desk.proofs.SeeLemmas.{sees_looked}
use Rattle.desk_rule.proofs.WaitLemmas.{rests_facts}
use Rattle.desk.proofs.call.Desk+M.front.Goals as goal

pub returns-clause-sees : goal.returns-clause-sees
returns-clause-sees g c = let l = c.look.ensures in
    sees_looked _ _ _ _ _ _ l.looks l.same.0 (rests_facts c.args.pass.now.seat.me.0 c.args.pass.now.resting).1
