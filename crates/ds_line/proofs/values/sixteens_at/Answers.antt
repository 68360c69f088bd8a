use Rattle.std.proofs.Common.{◌≡◌, ℕ, ◌+◌, ◌*◌, ◌++◌, length, take, drop, subst, arith}
use Rattle.ds_line.proofs.HexLemmas.{IsPaired, paired_first}
use Rattle.ds_line.proofs.SixteenLemmas.{paired_sixteen}
use Rattle.ds_line.proofs.values.sixteens_at.Goals as goal

pub loop-group-init : goal.loop-group-init
loop-group-init c = paired_first c.args.bytes.now c.args.block.now c.told-block

pub returns-in_default-clause-found : goal.returns-in_default-clause-found
returns-in_default-clause-found c = c.loop-group.invariant.parts

pub returns-in_default-clause-each : goal.returns-in_default-clause-each
returns-in_default-clause-each c = c.loop-group.invariant.each

pub loop-group-preserved : goal.loop-group-preserved
loop-group-preserved c =
    let n : ℕ = 16 * c.loop-group.group in
    let sixteen = c.sixteen_at.new.block in
    let more = paired_sixteen c.args.bytes.now c.loop-group.block c.loop-group.rest.now c.in-Some.after.now sixteen n c.loop-group.invariant
    (omega (arith, c.sixteen_at.array_long, c.loop-group-test.true)) c.in-Some.ensures.found c.in-Some.ensures.each in
    let end : n + length sixteen ≡ 16 * (c.loop-group.group + 1) = omega (arith, c.sixteen_at.array_long) in
    rw c.put.ensures (subst (IsPaired c.args.bytes.now
    (take n c.loop-group.block ++ (sixteen ++ drop (n + length sixteen) c.loop-group.block)) c.in-Some.after.now) end more)

pub returns-clause-found : goal.returns-clause-found
returns-clause-found c =
    let end : 16 * c.loop-group.group ≡ 1024 = omega (arith, c.loop-group-test.false, c.loop-group.auto.group-end) in
    (subst (IsPaired c.args.bytes.now c.loop-group.block c.loop-group.rest.now) end c.loop-group.invariant).parts

pub returns-clause-each : goal.returns-clause-each
returns-clause-each c =
    let end : 16 * c.loop-group.group ≡ 1024 = omega (arith, c.loop-group-test.false, c.loop-group.auto.group-end) in
    (subst (IsPaired c.args.bytes.now c.loop-group.block c.loop-group.rest.now) end c.loop-group.invariant).each
