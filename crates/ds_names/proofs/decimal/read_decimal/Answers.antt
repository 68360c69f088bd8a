use Rattle.std.proofs.Common.{arith}
use Rattle.ds_names.proofs.DecimalLemmas.{decimal_one}
use Rattle.ds_names.proofs.decimal.read_decimal.Goals as goal

pub returns-then-number-most-clause-none : goal.returns-then-number-most-clause-none
returns-then-number-most-clause-none c = λ n rest le h.
    let one = decimal_one c.args.bytes.now c.in_ok-number.number n c.in_ok-number.rest.now rest c.in_ok-number.ensures.limit
    (omega (arith, c.ranges.most)) c.in_ok-number.ensures.found h in
    omega (arith, one.0, c.if-number-most.true)
