use Rattle.std.proofs.Common.{◌≡◌, arith, subst}
use Rattle.desk.proofs.TallyLemmas.{CountsBelow, counts_all, counts_none}
use Rattle.desk.proofs.notice.tally.Goals as goal

pub loop-bit-init : goal.loop-bit-init
loop-bit-init c = counts_none c.args.rows.now c.args.server c.args.bits

pub returns : goal.returns
returns c = let all : c.loop-bit.bit ≡ 8 = omega arith in
    counts_all c.args.rows.now c.loop-bit.rows c.args.server c.args.bits
    (subst (λ k. CountsBelow c.args.rows.now c.args.server c.args.bits k c.loop-bit.rows) all c.loop-bit.invariant)
