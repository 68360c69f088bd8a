use Rattle.std.proofs.Common.{◌+◌, arith}
use Rattle.trace_walk.proofs.WalkingLemmas.{line_comes, none_comes, long_comes}
use Rattle.trace_walk.proofs.entry.next_line.Goals as goal

pub returns-in-Line-clause-there : goal.returns-in-Line-clause-there
returns-in-Line-clause-there g c e bytes front at =
    line_comes bytes front c.args.lines.now c.pull.new.self (g.R.Source.remaining c.args.reader.now)
    (g.R.Source.remaining c.pull.new.reader) at c.in-Line.ensures.pulls.0 c.in-Line.ensures.pulls.1 c.in-Line.ensures.pulls.3

pub returns-in-End-clause-none : goal.returns-in-End-clause-none
returns-in-End-clause-none g c e bytes front at =
    none_comes bytes front c.args.lines.now (g.R.Source.remaining c.args.reader.now) _ at c.in-End.ensures.pulls.0 c.in-End.ensures.pulls.1

pub returns-in-Long-clause-long : goal.returns-in-Long-clause-long
returns-in-Long-clause-long g c bytes front at =
    let l = c.in-Long.ensures.pulls in
    long_comes bytes front c.args.lines.now (g.R.Source.remaining c.args.reader.now) l.0 (c.count-number.result + 1) at l.1 l.2 l.3
    (omega (arith, c.count-number.ensures.value))

-- ---- reads and lines

pub returns-in-Line-clause-reads : goal.returns-in-Line-clause-reads
returns-in-Line-clause-reads g c = (λ first led. c.in-Line.ensures.told first led, omega (arith, c.in-Line.ensures.pulls.3))

pub returns-in-End-clause-reads : goal.returns-in-End-clause-reads
returns-in-End-clause-reads g c = (λ first led. c.in-End.ensures.told first led, omega (arith, c.in-End.ensures.pulls.1))

pub returns-in-Long-clause-reads : goal.returns-in-Long-clause-reads
returns-in-Long-clause-reads g c = λ first led. tt

pub returns-in-ReadFault-clause-reads : goal.returns-in-ReadFault-clause-reads
returns-in-ReadFault-clause-reads g c = λ first led. c.in-ReadFault.ensures.told first led

pub returns-in-NoRoom-clause-reads : goal.returns-in-NoRoom-clause-reads
returns-in-NoRoom-clause-reads g c = λ first led. tt

pub returns-in-Line-clause-counts : goal.returns-in-Line-clause-counts
returns-in-Line-clause-counts g c = λ there.
    (omega (arith, c.count-number.ensures.value, c.count-number.ensures.limit), omega (arith, c.in-Line.ensures.pulls.3))
