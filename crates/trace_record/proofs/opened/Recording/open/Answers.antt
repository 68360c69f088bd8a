use Rattle.std.proofs.Common.{refl, sym, subst}
use Rattle.line_io.specs.Reading.{LinesContent}
use Rattle.line_io.specs.Streams.{CallsLead}
use Rattle.trace_walk.proofs.BeginLemmas.{at_start}
use Rattle.trace_record.specs.Reading.{IsReady}
use Rattle.trace_record.specs.Causes.{ReadsLead}
use Rattle.trace_record.proofs.RunLemmas.{runs_first}
use Rattle.trace_record.proofs.opened.Recording.open.Goals as goal

pub returns-clause-begun : goal.returns-clause-begun
returns-clause-begun g c =
    let known = g.R.Source.remaining c.args.reader.now in
    let ring = c.in_ok-beginning.beginning.ring in
    let b = c.in_ok-beginning.ensures.begins in (
      ring,
      b.0,
      b.1,
      λ had. runs_first known b.0 had c.args.form ring c.begin.new.lines c.in_ok-recorder.recorder (g.R.Source.remaining c.begin.new.reader)
          c.in_ok-beginning.beginning.next c.in_ok-recorder.ensures.opens
          (λ bytes k. b.3 bytes (at_start bytes c.in_ok-lines.lines known c.in_ok-lines.ensures k)) b.2,
    )

pub returns-clause-reads : goal.returns-clause-reads
returns-clause-reads g c =
    let reader = c.args.reader.now in
    let none = subst (λ (l : LinesContent). CallsLead g.R.Source.reads l.reads reader reader) (sym c.in_ok-lines.ensures) refl in
    subst (λ (l : LinesContent). ReadsLead g.R.Source c.in_ok-beginning.beginning.next reader c.begin.new.reader l.reads)
    (sym c.in_ok-recorder.ensures.opens.lines_are) (c.in_ok-beginning.ensures.reads reader none)

pub returns-clause-ready : goal.returns-clause-ready
returns-clause-ready g c =
    subst (λ (l : LinesContent). IsReady l c.in_ok-beginning.beginning.next) (sym c.in_ok-recorder.ensures.opens.lines_are)
    c.in_ok-beginning.ensures.ready
