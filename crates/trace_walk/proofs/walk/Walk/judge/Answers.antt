use Rattle.std.proofs.Common.{◌++◌}
use Rattle.std.proofs.lemmas.Result.{IfOk-weaker, IfErr-weaker}
use Rattle.trace_walk.specs.Text.{asked_text}
use Rattle.trace_walk.proofs.AskLemmas.{reply_wanted, hears}
use Rattle.trace_walk.proofs.ReadLemmas.{on_then}
use Rattle.trace_walk.proofs.walk.Walk.judge.Goals as goal

pub returns-in-Err-clause-fails : goal.returns-in-Err-clause-fails
returns-in-Err-clause-fails g c b x =
    let old = c.args.self.now in
    c.in-Err.ensures.fails b.front b.bytes (b.front ++ asked_text c.args.pass c.args.asked) x.at
    (reply_wanted b old.entry.lines old.store old.header (g.R.Source.remaining c.args.reader.now) c.args.pass c.args.asked
    old.entry.text.items x)

pub returns-in-Ok-clause-goes : goal.returns-in-Ok-clause-goes
returns-in-Ok-clause-goes g c =
    IfOk-weaker c.answered.result _ _
    (λ passed goes b x.
    let old = c.args.self.now in
    let w = c.in-Ok.ensures.there b.bytes (b.front ++ asked_text c.args.pass c.args.asked) x.at in
    goes b (hears b old.entry.lines c.reply_line.new.lines old.store old.header (g.R.Source.remaining c.args.reader.now)
    (g.R.Source.remaining c.reply_line.new.reader) c.args.pass c.args.asked old.entry.text.items x w.0 w.1 w.2))
    c.answered.ensures.goes

pub returns-in-Ok-clause-fails : goal.returns-in-Ok-clause-fails
returns-in-Ok-clause-fails g c =
    IfErr-weaker c.answered.result _ _
    (λ fault fails b x.
    let old = c.args.self.now in
    let w = c.in-Ok.ensures.there b.bytes (b.front ++ asked_text c.args.pass c.args.asked) x.at in
    fails b (hears b old.entry.lines c.reply_line.new.lines old.store old.header (g.R.Source.remaining c.args.reader.now)
    (g.R.Source.remaining c.reply_line.new.reader) c.args.pass c.args.asked old.entry.text.items x w.0 w.1 w.2))
    c.answered.ensures.fails

-- ---- reads and lines

pub returns-in-Err-clause-reads : goal.returns-in-Err-clause-reads
returns-in-Err-clause-reads g c = λ first led. c.in-Err.ensures.reads first led

pub returns-in-Ok-clause-reads : goal.returns-in-Ok-clause-reads
returns-in-Ok-clause-reads g c =
    on_then g.R.Source c.answered.result c.args.self.now.entry.lines c.reply_line.new.lines c.answered.new.self.entry.lines
    c.args.reader.now c.reply_line.new.reader c.answered.new.reader c.in-Ok.ensures.reads c.answered.ensures.reads
