use Rattle.std.proofs.Common.{arith}
use Rattle.trace_walk.proofs.NumberLemmas.{none_after}
use Rattle.trace_walk.proofs.number.number_at.Goals as goal

pub returns-in_err-rest-clause-none : goal.returns-in_err-rest-clause-none
returns-in_err-rest-clause-none c =
    rw c.from_residual-in_err-rest.ensures (λ n rest le.
    none_after c.args.bytes.now c.in_ok-number.rest.now c.in_ok-number.number c.args.stop
    (omega (arith, c.in_ok-number.ensures.limit, c.ranges.most.fits)) c.requires c.in_ok-number.ensures.found c.in_err-rest.ensures.none
    n rest (omega (arith, le, c.ranges.most.fits)))
