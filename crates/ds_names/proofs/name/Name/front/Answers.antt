use Rattle.std.proofs.Common.{◌<◌, ◌∙◌, take, ap, arith}
use Rattle.ds_names.proofs.NameBlockLemmas.{run_kept, run_begins, name_is_run}
use Rattle.ds_names.proofs.name.Name.front.Goals as goal

pub returns-in_err-len-clause-none : goal.returns-in_err-len-clause-none
returns-in_err-len-clause-none c =
    rw c.from_residual.ensures (λ name rest is begins.
    c.in_err-len.ensures.run (omega (arith, name_is_run c.args.bytes.now name rest is begins, is.limit)))

pub returns-then-len-eq0-clause-none : goal.returns-then-len-eq0-clause-none
returns-then-len-eq0-clause-none c = λ name rest is begins.
    omega (arith, name_is_run c.args.bytes.now name rest is begins, is.some, c.in_ok-len.ensures.run.1, c.if-len-eq0.true)

pub invariant_of-result : goal.invariant_of-result
invariant_of-result c =
    let some : 0 < c.in_ok-len.len = omega (arith, c.if-len-eq0.false) in
    (run_kept c.args.bytes.now c.fill.new.block c.in_ok-len.len c.in_ok-len.ensures.run.1 some
    (omega (arith, c.in_ok-len.ensures.run.0, c.in_ok-len.ensures.run.1)) c.in_ok-len.ensures.filled).2

pub returns-clause-found : goal.returns-clause-found
returns-clause-found c =
    let some : 0 < c.in_ok-len.len = omega (arith, c.if-len-eq0.false) in
    let kept = run_kept c.args.bytes.now c.fill.new.block c.in_ok-len.len c.in_ok-len.ensures.run.1 some
    (omega (arith, c.in_ok-len.ensures.run.0, c.in_ok-len.ensures.run.1)) c.in_ok-len.ensures.filled in
    run_begins c.args.bytes.now (take c.in_ok-len.len c.fill.new.block)
    (kept.0 ∙ ap (λ n. take n c.args.bytes.now) c.in_ok-len.ensures.run.1)

pub returns-clause-name : goal.returns-clause-name
returns-clause-name c =
    let some : 0 < c.in_ok-len.len = omega (arith, c.if-len-eq0.false) in
    let kept = run_kept c.args.bytes.now c.fill.new.block c.in_ok-len.len c.in_ok-len.ensures.run.1 some
    (omega (arith, c.in_ok-len.ensures.run.0, c.in_ok-len.ensures.run.1)) c.in_ok-len.ensures.filled in
    kept.2.name
