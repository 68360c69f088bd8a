use Rattle.std.proofs.Common.{◌≡◌, length, ap, inl, arith}
use Rattle.line_io.specs.Reading.{LinesContent}
use Rattle.line_io.specs.Pulling.{left}
use Rattle.line_io.proofs.LeftLemmas.{pulls_judged, pulls_long}
use Rattle.line_io.proofs.lines.Lines.pull.Goals as goal

pub returns-then-front-gt-LONGEST_LINE-clause-pulls : goal.returns-then-front-gt-LONGEST_LINE-clause-pulls
returns-then-front-gt-LONGEST_LINE-clause-pulls g c =
    let i = c.loop-self.invariant in
    let from = left c.args.self.now (g.R.Source.remaining c.args.reader.now) in
    let known = g.R.Source.remaining c.loop-self.reader in
    let first = c.args.self.now in
    let at = c.loop-self.self in
    let kept : c.next.new.self ≡ at = c.next.ensures.kept c.loop-self-test.true in
    pulls_long from known known first at at i.kept (c.next.ensures.none c.loop-self-test.true)
    (omega (arith, c.if-front-gt-LONGEST_LINE.true, ap length c.front.ensures, ap (λ (l : LinesContent). length l.rest) kept))

pub returns-in-Failed-clause-told : goal.returns-in-Failed-clause-told
returns-in-Failed-clause-told g c = λ first led.
    (c.loop-self.self.reads, inl (c.loop-self.reader, c.loop-self.invariant.led first led, (c.in-Failed.ensures).told))

pub returns-clause-pulls : goal.returns-clause-pulls
returns-clause-pulls g c =
    let i = c.loop-self.invariant in
    let from = left c.args.self.now (g.R.Source.remaining c.args.reader.now) in
    pulls_judged c.judged.result from (g.R.Source.remaining c.loop-self.reader) c.args.self.now c.loop-self.self c.next.new.self
    i.kept i.count (c.next.ensures.found c.loop-self-test.false) c.judged.ensures
