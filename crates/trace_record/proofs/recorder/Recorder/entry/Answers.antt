use Rattle.std.proofs.Common.{sym, subst}
use Rattle.std.proofs.lemmas.Result.{on_ok_weaker, IfErr-weaker}
use Rattle.line_io.specs.Reading.{LinesContent}
use Rattle.line_io.specs.Streams.{CallsLead}
use Rattle.trace_record.specs.declared.fault.RecordFault.{RecordFault}
use Rattle.trace_record.specs.Causes.{IsReadCause}
use Rattle.trace_walk.proofs.FaultLemmas.{carried}
use Rattle.trace_record.proofs.CauseLemmas.{lines_cause, room_cause, unread_cause}
use Rattle.trace_record.proofs.StepLemmas.{both_of, entry_adds, entry_lacks, entry_unanswered, entry_unread}
use Rattle.trace_record.proofs.recorder.Recorder.entry.Goals as goal

pub returns-in_err-head-clause-fails : goal.returns-in_err-head-clause-fails
returns-in_err-head-clause-fails g c =
    carried c.from_residual.result c.in_err-head.field-0.0 _ c.from_residual.ensures.1
    (entry_unread c.args.self.now c.head.new.self (g.R.Source.remaining c.args.reader.now) c.in_err-head.field-0.0
    c.in_err-head.ensures.fails)

pub returns-in-Err-clause-fails : goal.returns-in-Err-clause-fails
returns-in-Err-clause-fails g c =
    entry_lacks c.args.self.now c.head.new.self c.asked.new.self (g.R.Source.remaining c.args.reader.now) c.in_ok-head.head c.in-Err.fault
    c.missing.result c.in_ok-head.ensures.goes c.in-Err.ensures.fails c.missing.ensures

pub returns-in-Ok-clause-goes : goal.returns-in-Ok-clause-goes
returns-in-Ok-clause-goes g c =
    on_ok_weaker c.answer.result
    (entry_adds c.args.self.now c.head.new.self c.answer.new.self c.asked.new.self (g.R.Source.remaining c.args.reader.now)
    (g.R.Source.remaining c.asked.new.reader) c.in_ok-head.head c.in-Ok.asked c.requires c.in_ok-head.ensures.goes
    c.in-Ok.ensures.goes)
    c.answer.ensures.goes

pub returns-in-Ok-clause-fails : goal.returns-in-Ok-clause-fails
returns-in-Ok-clause-fails g c =
    both_of c.answer.result _ _ _
    (λ fault e kept. entry_unanswered c.args.self.now c.head.new.self c.answer.new.self c.asked.new.self
    (g.R.Source.remaining c.args.reader.now) c.in_ok-head.head fault c.in_ok-head.ensures.goes e kept)
    c.answer.ensures.fault c.answer.ensures.kept

pub returns-in_err-head-clause-cause : goal.returns-in_err-head-clause-cause
returns-in_err-head-clause-cause g c =
    carried c.from_residual.result c.in_err-head.field-0.0 _ c.from_residual.ensures.1
    (unread_cause g.R.Source c.args.self.now c.head.new.self c.in_err-head.field-0.0 c.args.reader.now c.args.self.now.entry.lines.reads
    c.in_err-head.ensures.fails)

pub returns-in-Err-clause-cause : goal.returns-in-Err-clause-cause
returns-in-Err-clause-cause g c = λ first led.
    subst (λ (f : RecordFault). IsReadCause g.R.Source f first c.asked.new.reader) (sym c.missing.ensures.1)
    (lines_cause g.R.Source c.in-Err.fault c.missing.ensures.0 first c.asked.new.reader
    (c.in-Err.ensures.reads first (subst (λ (l : LinesContent). CallsLead g.R.Source.reads l.reads first c.args.reader.now)
    (sym c.in_ok-head.ensures.goes.stays) led)))

pub returns-in-Ok-clause-led : goal.returns-in-Ok-clause-led
returns-in-Ok-clause-led g c =
    on_ok_weaker c.answer.result
    (λ an first led.
    subst (λ (l : LinesContent). CallsLead g.R.Source.reads l.reads first c.asked.new.reader) (sym an.1)
    (c.in-Ok.ensures.reads.0 first (subst (λ (l : LinesContent). CallsLead g.R.Source.reads l.reads first c.args.reader.now)
    (sym c.in_ok-head.ensures.goes.stays) led)))
    c.answer.ensures.goes

pub returns-in-Ok-clause-cause : goal.returns-in-Ok-clause-cause
returns-in-Ok-clause-cause g c =
    IfErr-weaker c.answer.result _ _ (λ fault e.
    room_cause g.R.Source fault c.args.reader.now c.asked.new.reader c.args.self.now.entry.lines.reads e) c.answer.ensures.fault
