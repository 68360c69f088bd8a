use Rattle.std.proofs.Common.{◌≡◌, arith, subst}
use Rattle.desk.proofs.RowLemmas.{AddedBelow, added_all, added_none}
use Rattle.desk.proofs.account.add_rows.Goals as goal

pub loop-i-init : goal.loop-i-init
loop-i-init c = added_none c.args.sums.now c.args.rows.now

pub returns : goal.returns
returns c = let all : c.loop-i.i ≡ 128 = omega arith in
    added_all c.args.sums.now c.args.rows.now c.loop-i.sums
    (subst (λ n. AddedBelow c.args.sums.now c.args.rows.now n c.loop-i.sums) all c.loop-i.invariant)
