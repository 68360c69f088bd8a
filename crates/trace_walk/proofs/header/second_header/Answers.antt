use Rattle.std.proofs.Common.{◌∙◌, arith, sym}
use Rattle.trace_walk.specs.declared.header.Format.TheVariants.{Two}
use Rattle.trace_walk.proofs.NumberLemmas.{some_left}
use Rattle.trace_walk.proofs.HeaderLemmas.{Three, no_first, no_second_ring, no_subs, no_keys, no_limits, two_end}
use Rattle.trace_walk.proofs.header.second_header.Goals as goal

pub returns-in_err-first-clause-none : goal.returns-in_err-first-clause-none
returns-in_err-first-clause-none c =
    rw c.from_residual-in_err-first.ensures
    (no_first Two c.args.bytes.now c.in_ok-incarnation.rest.now c.in_ok-incarnation.incarnation
    (omega (arith, c.in_ok-incarnation.ensures.limit)) c.in_ok-incarnation.ensures.found c.in_err-first.ensures.none)

pub returns-in_err-ring-clause-none : goal.returns-in_err-ring-clause-none
returns-in_err-ring-clause-none c =
    rw c.from_residual-in_err-ring.ensures
    (no_second_ring c.args.bytes.now c.in_ok-incarnation.rest.now c.in_ok-first.rest.now c.in_ok-incarnation.incarnation c.in_ok-first.first
    (omega (arith, c.in_ok-incarnation.ensures.limit)) (omega (arith, c.in_ok-first.ensures.limit)) c.in_ok-incarnation.ensures.found
    c.in_ok-first.ensures.found c.in_err-ring.ensures.none)

pub returns-in_err-subs-clause-none : goal.returns-in_err-subs-clause-none
returns-in_err-subs-clause-none c =
    let t : Three c.args.bytes.now c.in_ok-incarnation.incarnation c.in_ok-first.first c.in_ok-ring.ring c.in_ok-ring.rest.now =
    record {
      rest = c.in_ok-incarnation.rest.now;
      more = c.in_ok-first.rest.now;
      first_few = omega (arith, c.in_ok-incarnation.ensures.limit);
      second_few = omega (arith, c.in_ok-first.ensures.limit);
      first = c.in_ok-incarnation.ensures.found;
      second = c.in_ok-first.ensures.found;
      third = c.in_ok-ring.ensures.found;
    } in
    rw c.from_residual-in_err-subs.ensures
    (no_subs c.args.bytes.now c.in_ok-ring.rest.now c.in_ok-incarnation.incarnation c.in_ok-first.first c.in_ok-ring.ring t
    (omega (arith, c.in_ok-ring.ensures.limit)) c.in_err-subs.ensures.none)

pub returns-in_err-keys-clause-none : goal.returns-in_err-keys-clause-none
returns-in_err-keys-clause-none c =
    let t : Three c.args.bytes.now c.in_ok-incarnation.incarnation c.in_ok-first.first c.in_ok-ring.ring c.in_ok-ring.rest.now =
    record {
      rest = c.in_ok-incarnation.rest.now;
      more = c.in_ok-first.rest.now;
      first_few = omega (arith, c.in_ok-incarnation.ensures.limit);
      second_few = omega (arith, c.in_ok-first.ensures.limit);
      first = c.in_ok-incarnation.ensures.found;
      second = c.in_ok-first.ensures.found;
      third = c.in_ok-ring.ensures.found;
    } in
    rw c.from_residual-in_err-keys.ensures
    (no_keys c.args.bytes.now c.in_ok-ring.rest.now c.in_ok-subs.rest.now c.in_ok-incarnation.incarnation c.in_ok-first.first
    c.in_ok-ring.ring c.in_ok-subs.subs t (omega (arith, c.in_ok-ring.ensures.limit)) (omega (arith, c.in_ok-subs.ensures.limit))
    c.in_ok-subs.ensures.found c.in_err-keys.ensures.none)

pub returns-then-ring-eq0-clause-none : goal.returns-then-ring-eq0-clause-none
returns-then-ring-eq0-clause-none c = λ h same is e.
    let t : Three c.args.bytes.now c.in_ok-incarnation.incarnation c.in_ok-first.first c.in_ok-ring.ring c.in_ok-ring.rest.now =
    record {
      rest = c.in_ok-incarnation.rest.now;
      more = c.in_ok-first.rest.now;
      first_few = omega (arith, c.in_ok-incarnation.ensures.limit);
      second_few = omega (arith, c.in_ok-first.ensures.limit);
      first = c.in_ok-incarnation.ensures.found;
      second = c.in_ok-first.ensures.found;
      third = c.in_ok-ring.ensures.found;
    } in
    let all =
    two_end c.args.bytes.now c.in_ok-ring.rest.now c.in_ok-subs.rest.now c.in_ok-keys.rest.now c.in_ok-incarnation.incarnation
    c.in_ok-first.first c.in_ok-ring.ring c.in_ok-subs.subs c.in_ok-keys.keys h t (omega (arith, c.in_ok-ring.ensures.limit))
    (omega (arith, c.in_ok-subs.ensures.limit)) (omega (arith, c.in_ok-keys.ensures.limit)) c.in_ok-subs.ensures.found
    c.in_ok-keys.ensures.found same is e in
    omega (arith, all.0, is.ring.some, c.if-ring-eq0.true)

pub returns-then-not-is_empty-clause-none : goal.returns-then-not-is_empty-clause-none
returns-then-not-is_empty-clause-none c = λ h same is e.
    let t : Three c.args.bytes.now c.in_ok-incarnation.incarnation c.in_ok-first.first c.in_ok-ring.ring c.in_ok-ring.rest.now =
    record {
      rest = c.in_ok-incarnation.rest.now;
      more = c.in_ok-first.rest.now;
      first_few = omega (arith, c.in_ok-incarnation.ensures.limit);
      second_few = omega (arith, c.in_ok-first.ensures.limit);
      first = c.in_ok-incarnation.ensures.found;
      second = c.in_ok-first.ensures.found;
      third = c.in_ok-ring.ensures.found;
    } in
    let all =
    two_end c.args.bytes.now c.in_ok-ring.rest.now c.in_ok-subs.rest.now c.in_ok-keys.rest.now c.in_ok-incarnation.incarnation
    c.in_ok-first.first c.in_ok-ring.ring c.in_ok-subs.subs c.in_ok-keys.keys h t (omega (arith, c.in_ok-ring.ensures.limit))
    (omega (arith, c.in_ok-subs.ensures.limit)) (omega (arith, c.in_ok-keys.ensures.limit)) c.in_ok-subs.ensures.found
    c.in_ok-keys.ensures.found same is e in
    some_left c.in_ok-keys.rest.now c.if-not-is_empty.ensures all.3

pub returns-in_err-of-clause-none : goal.returns-in_err-of-clause-none
returns-in_err-of-clause-none c =
    let t : Three c.args.bytes.now c.in_ok-incarnation.incarnation c.in_ok-first.first c.in_ok-ring.ring c.in_ok-ring.rest.now =
    record {
      rest = c.in_ok-incarnation.rest.now;
      more = c.in_ok-first.rest.now;
      first_few = omega (arith, c.in_ok-incarnation.ensures.limit);
      second_few = omega (arith, c.in_ok-first.ensures.limit);
      first = c.in_ok-incarnation.ensures.found;
      second = c.in_ok-first.ensures.found;
      third = c.in_ok-ring.ensures.found;
    } in
    rw c.from_residual-in_err-of.ensures
    (no_limits c.args.bytes.now c.in_ok-ring.rest.now c.in_ok-subs.rest.now c.in_ok-keys.rest.now c.in_ok-incarnation.incarnation
    c.in_ok-first.first c.in_ok-ring.ring c.in_ok-subs.subs c.in_ok-keys.keys t (omega (arith, c.in_ok-ring.ensures.limit))
    (omega (arith, c.in_ok-subs.ensures.limit)) (omega (arith, c.in_ok-keys.ensures.limit)) c.in_ok-subs.ensures.found
    c.in_ok-keys.ensures.found (sym c.of.ensures ∙ c.in_err-of.was))
