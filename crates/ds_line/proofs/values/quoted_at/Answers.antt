use Rattle.std.proofs.Common.{◌≡◌, subst, arith}
use Rattle.ds_line.proofs.TextLemmas.{IsOpen, open_first, open_more, open_closes, open_text, open_stops, open_full, no_opening}
use Rattle.ds_line.proofs.values.quoted_at.Goals as goal

pub loop-len-init : goal.loop-len-init
loop-len-init c = open_first c.args.bytes.now c.args.block.now c.in-Some.text.now c.in-Some.ensures.found c.told-block

pub returns-in-Some-read_byte-clause-found : goal.returns-in-Some-read_byte-clause-found
returns-in-Some-read_byte-clause-found c =
    open_closes c.args.bytes.now c.loop-len.block c.loop-len.rest.now c.in-Some-read_byte.after.now c.loop-len.len c.loop-len.invariant
    c.in-Some-read_byte.ensures.found

pub returns-in-Some-read_byte-clause-valid : goal.returns-in-Some-read_byte-clause-valid
returns-in-Some-read_byte-clause-valid c =
    open_text c.args.bytes.now c.loop-len.block c.loop-len.rest.now c.loop-len.len c.loop-len.invariant
    (omega (arith, c.loop-len-test.true))

pub returns-in_default-clause-none : goal.returns-in_default-clause-none
returns-in_default-clause-none c = no_opening c.args.bytes.now c.in_default.ensures.none

pub returns-in_default-text_byte_at-clause-none : goal.returns-in_default-text_byte_at-clause-none
returns-in_default-text_byte_at-clause-none c =
    open_stops c.args.bytes.now c.loop-len.block c.loop-len.rest.now c.loop-len.len c.loop-len.invariant
    c.in_default-read_byte.ensures.none c.in_default-text_byte_at.ensures.none

pub loop-len-preserved : goal.loop-len-preserved
loop-len-preserved c =
    open_more c.args.bytes.now c.loop-len.block c.loop-len.rest.now c.in-Some-text_byte_at.after.now c.loop-len.len
    c.in-Some-text_byte_at.byte c.loop-len.invariant
    c.loop-len-test.true c.in-Some-text_byte_at.ensures.found c.in-Some-text_byte_at.ensures.valid

pub returns-in_default-read_byte-2-clause-none : goal.returns-in_default-read_byte-2-clause-none
returns-in_default-read_byte-2-clause-none c =
    let end : c.loop-len.len ≡ 256 = omega (arith, c.loop-len-test.false, c.loop-len.auto.len-end) in
    open_full c.args.bytes.now c.loop-len.block c.loop-len.rest.now
    (subst (IsOpen c.args.bytes.now c.loop-len.block c.loop-len.rest.now) end c.loop-len.invariant) c.in_default-read_byte-2.ensures.none

pub returns-clause-found : goal.returns-clause-found
returns-clause-found c =
    let end : c.loop-len.len ≡ 256 = omega (arith, c.loop-len-test.false, c.loop-len.auto.len-end) in
    open_closes c.args.bytes.now c.loop-len.block c.loop-len.rest.now c.in-Some-read_byte-2.rest.now 256
    (subst (IsOpen c.args.bytes.now c.loop-len.block c.loop-len.rest.now) end c.loop-len.invariant) c.in-Some-read_byte-2.ensures.found

pub returns-clause-valid : goal.returns-clause-valid
returns-clause-valid c =
    let end : c.loop-len.len ≡ 256 = omega (arith, c.loop-len-test.false, c.loop-len.auto.len-end) in
    open_text c.args.bytes.now c.loop-len.block c.loop-len.rest.now 256
    (subst (IsOpen c.args.bytes.now c.loop-len.block c.loop-len.rest.now) end c.loop-len.invariant) (omega arith)
