use Rattle.std.proofs.Common.{refl}
use Rattle.trace_walk.specs.Reads.{Continues}
use Rattle.trace_walk.proofs.FaultLemmas.{carried}
use Rattle.trace_walk.proofs.ItemLemmas.{lines_line, lines_merge}
use Rattle.trace_walk.proofs.ReadLemmas.{carried_as, stays}
use Rattle.trace_walk.proofs.entry.EntryReader.asked.Goals as goal

pub returns-in-Line-clause-goes : goal.returns-in-Line-clause-goes
returns-in-Line-clause-goes g c = lines_line c.args.format c.args.self.now (g.R.Source.remaining c.args.reader.now) c.args.head _
    c.in-Line.command c.in-Line.is refl

pub returns-in_ok-items-in-Merge-clause-goes : goal.returns-in_ok-items-in-Merge-clause-goes
returns-in_ok-items-in-Merge-clause-goes g c =
    lines_merge c.args.format c.args.self.now c.items.new.self (g.R.Source.remaining c.args.reader.now)
    (g.R.Source.remaining c.items.new.reader)
    c.args.head _ c.in-Merge.count c.in_ok-items-in-Merge.field-0 c.in-Merge.is refl c.in_ok-items-in-Merge.ensures.goes

pub returns-in_err-items-in-Merge-clause-fails : goal.returns-in_err-items-in-Merge-clause-fails
returns-in_err-items-in-Merge-clause-fails g c =
    carried c.from_residual.result c.in_err-items-in-Merge.field-0.0 _ c.from_residual.ensures.1
    (c.in-Merge.count, c.in-Merge.is, c.in_err-items-in-Merge.ensures.fails)

pub returns-in-Line-clause-reads : goal.returns-in-Line-clause-reads
returns-in-Line-clause-reads g c = stays g.R.Source c.args.self.now.lines c.args.reader.now

pub returns-in_err-items-in-Merge-clause-reads : goal.returns-in_err-items-in-Merge-clause-reads
returns-in_err-items-in-Merge-clause-reads g c =
    carried_as c.from_residual.result c.in_err-items-in-Merge.field-0.0
    (λ r. Continues g.R.Source r c.args.self.now.lines c.args.reader.now c.items.new.self.lines c.items.new.reader)
    c.from_residual.ensures.1
    (λ first led. c.in_err-items-in-Merge.ensures.reads first led)
