use Rattle.std.proofs.Common.{arith, refl}
use Rattle.desk.proofs.RowLemmas.{filled_more, filled_none}
use Rattle.desk.proofs.account.fill_rows.Goals as goal

pub loop-i-init : goal.loop-i-init
loop-i-init c = (filled_none _ _ _ _ c.requires.room.0, c.requires.room.1)

pub loop-i-preserved : goal.loop-i-preserved
loop-i-preserved c = let i = c.loop-i.invariant in let p = c.push_reserved.ensures in let cap = i.1 in let k = p.capacity in
    (filled_more _ _ _ c.loop-i.i _ _ _ refl p.items i.0, omega arith)
