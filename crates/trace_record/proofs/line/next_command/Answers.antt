use Rattle.std.proofs.Common.{Err, sym, subst}
use Rattle.trace_record.specs.declared.fault.RecordFault.{RecordFault}
use Rattle.trace_record.specs.Causes.{IsReadCause}
use Rattle.trace_record.specs.Reading.{ComesToNext, IsOfInput}
use Rattle.trace_record.proofs.CauseLemmas.{lines_cause}
use Rattle.trace_record.proofs.RunLemmas.{comes_not, comes_there, front_at, ready_there}
use Rattle.trace_record.proofs.StepLemmas.{input_lines}
use Rattle.trace_record.proofs.line.next_command.Goals as goal

pub returns-in-Ok-clause-comes : goal.returns-in-Ok-clause-comes
returns-in-Ok-clause-comes g c bytes front at =
    comes_there bytes front c.next_line.new.lines (g.R.Source.remaining c.next_line.new.reader) c.in-Ok.there
    (λ e. c.in-Ok.ensures.there e bytes front at) (λ e. c.in-Ok.ensures.none e bytes front at)

pub returns-in-Ok-clause-ready : goal.returns-in-Ok-clause-ready
returns-in-Ok-clause-ready g c = ready_there c.next_line.new.lines c.in-Ok.there c.in-Ok.ensures.short

pub returns-in-Ok-clause-reads : goal.returns-in-Ok-clause-reads
returns-in-Ok-clause-reads g c = λ first led. c.in-Ok.ensures.reads.0 first led

pub returns-in-Err-clause-comes : goal.returns-in-Err-clause-comes
returns-in-Err-clause-comes g c bytes front at =
    let new = c.next_line.new.lines in
    let to = g.R.Source.remaining c.next_line.new.reader in
    subst (λ (f : RecordFault). ComesToNext bytes front new to (Err f)) (sym c.of_lines.ensures)
    (comes_not bytes front new to c.in-Err.fault c.place_of_long-place.result
    (front_at bytes front c.args.lines.now (g.R.Source.remaining c.args.reader.now) at) (c.in-Err.ensures.long bytes front at)
    c.place_of_long-place.ensures)

pub returns-in-Err-clause-ready : goal.returns-in-Err-clause-ready
returns-in-Err-clause-ready g c = subst IsOfInput (sym c.of_lines.ensures) (input_lines c.in-Err.fault c.place_of_long-place.result)

pub returns-in-Err-clause-reads : goal.returns-in-Err-clause-reads
returns-in-Err-clause-reads g c = λ first led.
    subst (λ (f : RecordFault). IsReadCause g.R.Source f first c.next_line.new.reader) (sym c.of_lines.ensures)
    (lines_cause g.R.Source c.in-Err.fault c.place_of_long-place.result first c.next_line.new.reader (c.in-Err.ensures.reads first led))
