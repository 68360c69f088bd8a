use Rattle.std.proofs.Common.{List, ℕ, subst}
use Rattle.std.specs.Io.KnownBytes.{Appends}
use Rattle.line_io.specs.Transfer.{WritesPart}
use Rattle.trace_record.specs.declared.fault.RecordFault.TheVariants.{WriteFault}
use Rattle.trace_record.specs.Record.{header_of}
use Rattle.trace_record.specs.Running.{WritesRest}
use Rattle.line_io.proofs.CallLemmas.{failed_on}
use Rattle.trace_record.proofs.CauseLemmas.{settled_caused}
use Rattle.trace_walk.proofs.FaultLemmas.{carried}
use Rattle.trace_record.proofs.RunLemmas.{fault_settled, settled_whole, whole_unwritten}
use Rattle.trace_record.proofs.opened.Recording.record.Goals as goal

pub returns-in-Ok-clause-written : goal.returns-in-Ok-clause-written
returns-in-Ok-clause-written g c form known begun =
    let had = g.W.Sink.contents c.args.writer.now in
    let mid = g.W.Sink.contents c.run.new.writer in
    let has = g.W.Sink.contents c.write_out.new.writer in
    let waits = c.run.new.recorder.output.items in
    settled_whole form begun.0 known begun.1 had mid has waits begun.2 c.in-Ok.count
    (c.in-Ok.ensures.runs known begun.1 had (header_of form begun.0) (begun.3 had))
    (subst (λ (l : List ℕ). Appends mid has l) c.as_slice.ensures.value c.in_ok-write_out-in-Ok.ensures.ok)

pub returns-in_err-write_out-in-Ok-clause-stopped : goal.returns-in_err-write_out-in-Ok-clause-stopped
returns-in_err-write_out-in-Ok-clause-stopped g c =
    let had = g.W.Sink.contents c.args.writer.now in
    let mid = g.W.Sink.contents c.run.new.writer in
    let has = g.W.Sink.contents c.write_out.new.writer in
    let waits = c.run.new.recorder.output.items in
    carried c.from_residual.result WriteFault _ c.from_residual.ensures.1
    (λ form known begun.
    whole_unwritten form begun.0 known begun.1 had mid has waits begun.2 c.in-Ok.count
    (c.in-Ok.ensures.runs known begun.1 had (header_of form begun.0) (begun.3 had))
    (subst (λ (l : List ℕ). WritesPart mid has l) c.as_slice.ensures.value c.in_err-write_out-in-Ok.ensures.err))

pub returns-clause-stopped : goal.returns-clause-stopped
returns-clause-stopped g c form known begun =
    let had = g.W.Sink.contents c.args.writer.now in
    let mid = g.W.Sink.contents c.run.new.writer in
    let has = g.W.Sink.contents c.settled.new.writer in
    let waits = c.run.new.recorder.output.items in
    fault_settled form begun.0 known begun.1 had mid has waits begun.2 c.in-Err.fault c.settled.result
    (c.in-Err.ensures.runs known begun.1 had (header_of form begun.0) (begun.3 had))
    (subst (λ (l : List ℕ). WritesRest c.in-Err.fault mid has l c.settled.result) c.as_slice-in-Err.ensures.value c.settled.ensures.settles)

pub returns-in_err-write_out-in-Ok-clause-cause : goal.returns-in_err-write_out-in-Ok-clause-cause
returns-in_err-write_out-in-Ok-clause-cause g c =
    carried c.from_residual.result WriteFault _ c.from_residual.ensures.1
    (λ first led. failed_on g.W.Sink.writes g.W.Sink.fails c.args.writer.now c.run.new.writer c.write_out.new.writer c.in-Ok.ensures.led
    c.in_err-write_out-in-Ok.ensures.cause)

pub returns-clause-cause : goal.returns-clause-cause
returns-clause-cause g c first led =
    settled_caused g.R.Source g.W.Sink c.in-Err.fault c.settled.result first c.run.new.reader c.args.writer.now c.run.new.writer
    c.settled.new.writer (c.in-Err.ensures.cause first led) c.settled.ensures.cause
