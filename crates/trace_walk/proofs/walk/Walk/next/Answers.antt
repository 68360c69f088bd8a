use Rattle.std.proofs.Common.{◌∙◌, arith, subst}
use Rattle.trace_walk.specs.declared.header.Header.{Header}
use Rattle.trace_walk.specs.Passing.{HasPassed}
use Rattle.trace_walk.specs.Steps.{ReadsHead}
use Rattle.trace_walk.proofs.FaultLemmas.{carried, some_at}
use Rattle.trace_walk.specs.Reads.{Advances, CountsOn}
use Rattle.trace_walk.proofs.ReadLemmas.{carried_as, on_and_on}
use Rattle.trace_walk.proofs.WantedLemmas.{wanted_in_reply}
use Rattle.trace_walk.specs.Wanting.{wanted_in}
use Rattle.trace_walk.proofs.walk.Walk.next.Goals as goal

pub returns-in_err-asked-clause-fails : goal.returns-in_err-asked-clause-fails
returns-in_err-asked-clause-fails g c =
    let heads =
    some_at c.in_ok-pass.field-0 (c.in-Some.pass, c.in-Some.head)
    (ReadsHead c.args.self.now (g.R.Source.remaining c.args.reader.now) c.head.new.self (g.R.Source.remaining c.head.new.reader))
    c.in-Some.is c.in_ok-pass.ensures.some in
    carried c.from_residual-in_err-asked.result c.in_err-asked.field-0.0 _ c.from_residual-in_err-asked.ensures.1
    (λ b w. c.in_err-asked.ensures.fails b c.in-Some.pass (heads.1 b w))

pub returns-in-Err-clause-fails : goal.returns-in-Err-clause-fails
returns-in-Err-clause-fails g c b w =
    let heads =
    some_at c.in_ok-pass.field-0 (c.in-Some.pass, c.in-Some.head)
    (ReadsHead c.args.self.now (g.R.Source.remaining c.args.reader.now) c.head.new.self (g.R.Source.remaining c.head.new.reader))
    c.in-Some.is c.in_ok-pass.ensures.some in
    c.in-Err.ensures.fails b (c.in_ok-asked.ensures.goes.1 b c.in-Some.pass (heads.1 b w))

pub returns-in-Ok-clause-goes : goal.returns-in-Ok-clause-goes
returns-in-Ok-clause-goes g c b w =
    let heads =
    some_at c.in_ok-pass.field-0 (c.in-Some.pass, c.in-Some.head)
    (ReadsHead c.args.self.now (g.R.Source.remaining c.args.reader.now) c.head.new.self (g.R.Source.remaining c.head.new.reader))
    c.in-Some.is c.in_ok-pass.ensures.some in
    let same = c.in_ok-asked.ensures.goes.0 ∙ heads.0 in
    let passed = c.in-Ok.ensures.goes b (c.in_ok-asked.ensures.goes.1 b c.in-Some.pass (heads.1 b w)) in
    subst (λ (h : Header). HasPassed b h c.judge.new.self (g.R.Source.remaining c.judge.new.reader) c.in-Ok.passed) same passed

-- ---- reads and lines

pub returns-in_err-pass-clause-reads : goal.returns-in_err-pass-clause-reads
returns-in_err-pass-clause-reads g c =
    carried_as c.from_residual.result c.in_err-pass.field-0.0
    (λ r. Advances g.R.Source r c.args.self.now.entry.lines c.args.reader.now c.head.new.self.entry.lines c.head.new.reader)
    c.from_residual.ensures.1
    (λ first led. c.in_err-pass.ensures.reads first led)

pub returns-in_err-asked-clause-reads : goal.returns-in_err-asked-clause-reads
returns-in_err-asked-clause-reads g c =
    carried_as c.from_residual-in_err-asked.result c.in_err-asked.field-0.0
    (λ r. Advances g.R.Source r c.args.self.now.entry.lines c.args.reader.now c.asked.new.self.entry.lines c.asked.new.reader)
    c.from_residual-in_err-asked.ensures.1
    (λ first led. c.in_err-asked.ensures.reads first (c.in_ok-pass.ensures.reads.0 first led))

pub returns-in-Err-clause-reads : goal.returns-in-Err-clause-reads
returns-in-Err-clause-reads g c = λ first led.
    c.in-Err.ensures.reads first (c.in_ok-asked.ensures.reads.0 first (c.in_ok-pass.ensures.reads.0 first led))

pub returns-in-Ok-clause-reads : goal.returns-in-Ok-clause-reads
returns-in-Ok-clause-reads g c =
    let r = g.R.Source in
    let old = c.args.self.now.entry.lines in
    let x = c.args.reader.now in
    on_and_on r old c.asked.new.self.entry.lines c.judge.new.self.entry.lines x c.asked.new.reader c.judge.new.reader
    (on_and_on r old c.head.new.self.entry.lines c.asked.new.self.entry.lines x c.head.new.reader c.asked.new.reader
    c.in_ok-pass.ensures.reads c.in_ok-asked.ensures.reads) c.in-Ok.ensures.reads

pub returns-in-Ok-clause-counts : goal.returns-in-Ok-clause-counts
returns-in-Ok-clause-counts g c =
    let k = some_at c.in_ok-pass.field-0 (c.in-Some.pass, c.in-Some.head)
    (λ p. CountsOn c.args.self.now.entry.lines c.head.new.self.entry.lines) c.in-Some.is c.in_ok-pass.ensures.counts in
    (k.0, omega (arith, k.1, c.in_ok-asked.ensures.reads.1, c.in-Ok.ensures.reads.1))

-- ---- the line that must be there

pub returns-in_err-pass-clause-wanted : goal.returns-in_err-pass-clause-wanted
returns-in_err-pass-clause-wanted g c = carried c.from_residual.result c.in_err-pass.field-0.0 _ c.from_residual.ensures.1
    c.in_err-pass.ensures.wanted

pub returns-in_err-asked-clause-wanted : goal.returns-in_err-asked-clause-wanted
returns-in_err-asked-clause-wanted g c =
    let heads =
    some_at c.in_ok-pass.field-0 (c.in-Some.pass, c.in-Some.head)
    (ReadsHead c.args.self.now (g.R.Source.remaining c.args.reader.now) c.head.new.self (g.R.Source.remaining c.head.new.reader))
    c.in-Some.is c.in_ok-pass.ensures.some in
    carried c.from_residual-in_err-asked.result c.in_err-asked.field-0.0 _ c.from_residual-in_err-asked.ensures.1
    (λ b w. c.in_err-asked.ensures.wanted b c.in-Some.pass (heads.1 b w))

pub returns-in-Err-clause-wanted : goal.returns-in-Err-clause-wanted
returns-in-Err-clause-wanted g c b w = wanted_in_reply b.bytes (wanted_in c.judge.new.self.in_items) c.in-Err.fault c.in-Err.ensures.kind
