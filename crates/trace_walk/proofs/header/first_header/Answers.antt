use Rattle.std.proofs.Common.{arith}
use Rattle.trace_walk.specs.declared.header.Format.TheVariants.{One}
use Rattle.trace_walk.proofs.NumberLemmas.{some_left}
use Rattle.trace_walk.proofs.HeaderLemmas.{no_first, no_ring, empty_ring, more_after}
use Rattle.trace_walk.proofs.header.first_header.Goals as goal

pub returns-in_err-first-clause-none : goal.returns-in_err-first-clause-none
returns-in_err-first-clause-none c =
    rw c.from_residual-in_err-first.ensures
    (no_first One c.args.bytes.now c.in_ok-incarnation.rest.now c.in_ok-incarnation.incarnation
    (omega (arith, c.in_ok-incarnation.ensures.limit)) c.in_ok-incarnation.ensures.found c.in_err-first.ensures.none)

pub returns-in_err-ring-clause-none : goal.returns-in_err-ring-clause-none
returns-in_err-ring-clause-none c =
    rw c.from_residual-in_err-ring.ensures
    (no_ring c.args.bytes.now c.in_ok-incarnation.rest.now c.in_ok-first.rest.now c.in_ok-incarnation.incarnation c.in_ok-first.first
    (omega (arith, c.in_ok-incarnation.ensures.limit)) (omega (arith, c.in_ok-first.ensures.limit)) c.in_ok-incarnation.ensures.found
    c.in_ok-first.ensures.found c.in_err-ring.ensures.none)

pub returns-then-ring-eq0-clause-none : goal.returns-then-ring-eq0-clause-none
returns-then-ring-eq0-clause-none c =
    empty_ring c.args.bytes.now c.in_ok-incarnation.rest.now c.in_ok-first.rest.now c.in_ok-ring.rest.now c.in_ok-incarnation.incarnation
    c.in_ok-first.first c.in_ok-ring.ring (omega (arith, c.in_ok-incarnation.ensures.limit))
    (omega (arith, c.in_ok-first.ensures.limit)) c.if-ring-eq0.true c.in_ok-incarnation.ensures.found c.in_ok-first.ensures.found
    c.in_ok-ring.ensures.found

pub returns-then-not-is_empty-clause-none : goal.returns-then-not-is_empty-clause-none
returns-then-not-is_empty-clause-none c =
    let some = some_left c.in_ok-ring.rest.now c.if-not-is_empty.ensures in
    more_after c.args.bytes.now c.in_ok-incarnation.rest.now c.in_ok-first.rest.now c.in_ok-ring.rest.now c.in_ok-incarnation.incarnation
    c.in_ok-first.first c.in_ok-ring.ring (omega (arith, c.in_ok-incarnation.ensures.limit))
    (omega (arith, c.in_ok-first.ensures.limit)) (omega (arith, c.in_ok-ring.ensures.limit)) some c.in_ok-incarnation.ensures.found
    c.in_ok-first.ensures.found c.in_ok-ring.ensures.found
