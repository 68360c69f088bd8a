use Rattle.std.proofs.Common.{◌≡◌, subst, sym, ◌∙◌, arith}
use Rattle.std.proofs.lemmas.Bool.{false≢true}
use Rattle.ds_line.proofs.HexLemmas.{IsPaired, paired_more, paired_ends, paired_blob, paired_stops, paired_full}
use Rattle.ds_line.proofs.values.hex_at.Goals as goal

pub loop-len-init : goal.loop-len-init
loop-len-init c =
    record { parts = c.sixteens_at-read.ensures.found; each = c.sixteens_at-read.ensures.each; whole = c.sixteens_at-read.array_long }

pub returns-else-ends_digits-clause-none : goal.returns-else-ends_digits-clause-none
returns-else-ends_digits-clause-none c =
    paired_stops c.args.bytes.now c.loop-len.block c.loop-len.rest.now c.loop-len.len c.loop-len.invariant
    (λ ends. false≢true (sym c.if-ends_digits.false ∙ c.ends_digits.ensures.1 ends)) c.in_default.ensures.none

pub loop-len-preserved : goal.loop-len-preserved
loop-len-preserved c =
    paired_more c.args.bytes.now c.loop-len.block c.loop-len.rest.now c.in-Some.after.now c.loop-len.len c.in-Some.byte
    c.loop-len.invariant c.loop-len-test.true c.in-Some.ensures.found c.in-Some.ensures.byte

pub returns-then-ends_digits-2-clause-found : goal.returns-then-ends_digits-2-clause-found
returns-then-ends_digits-2-clause-found c =
    let end : c.loop-len.len ≡ 1024 = omega (arith, c.loop-len-test.false, c.loop-len.auto.len-end) in
    paired_ends c.args.bytes.now c.loop-len.block c.loop-len.rest.now 1024
    (subst (IsPaired c.args.bytes.now c.loop-len.block c.loop-len.rest.now) end c.loop-len.invariant)
    (c.ends_digits-2.ensures.0 c.if-ends_digits-2.true)

pub returns-then-ends_digits-2-clause-valid : goal.returns-then-ends_digits-2-clause-valid
returns-then-ends_digits-2-clause-valid c =
    let end : c.loop-len.len ≡ 1024 = omega (arith, c.loop-len-test.false, c.loop-len.auto.len-end) in
    paired_blob c.args.bytes.now c.loop-len.block c.loop-len.rest.now 1024
    (subst (IsPaired c.args.bytes.now c.loop-len.block c.loop-len.rest.now) end c.loop-len.invariant) (omega arith)

pub returns-else-ends_digits-2-clause-none : goal.returns-else-ends_digits-2-clause-none
returns-else-ends_digits-2-clause-none c =
    let end : c.loop-len.len ≡ 1024 = omega (arith, c.loop-len-test.false, c.loop-len.auto.len-end) in
    paired_full c.args.bytes.now c.loop-len.block c.loop-len.rest.now
    (subst (IsPaired c.args.bytes.now c.loop-len.block c.loop-len.rest.now) end c.loop-len.invariant)
    (λ ends. false≢true (sym c.if-ends_digits-2.false ∙ c.ends_digits-2.ensures.1 ends))
