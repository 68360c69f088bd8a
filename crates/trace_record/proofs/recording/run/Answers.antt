use Rattle.std.proofs.Common.{◌≡◌, ◌+◌, ◌∙◌, ℕ, suc, List, Option, Bool, Result, Ok, Err, refl, sym, ap, subst, arith}
use Rattle.trace_walk.specs.declared.header.Header.{Header}
use Rattle.trace_record.specs.declared.fault.RecordFault.{RecordFault}
use Rattle.trace_record.specs.declared.recorder.Recorder.{Recorder}
use Rattle.trace_record.specs.Causes.{IsToBlame, ReadsLead}
use Rattle.trace_record.specs.Reading.{IsReady}
use Rattle.trace_record.specs.Running.{Runs, RunsTo}
use Rattle.line_io.proofs.CallLemmas.{no_calls, only_calls_on, failed_on}
use Rattle.trace_record.proofs.CauseLemmas.{input_cause}
use Rattle.trace_walk.proofs.FaultLemmas.{carried}
use Rattle.trace_walk.proofs.ReadLemmas.{carried_as}
use Rattle.trace_record.proofs.RunLemmas.{entry_added, entry_fails, entry_unwritten, entry_written, run_ends, run_full, run_stops}
use Rattle.trace_record.proofs.recording.run.Goals as goal

pub loop-count-init : goal.loop-count-init
loop-count-init g c = (c.requires, λ known first had h r. r, λ first led. led, no_calls g.W.Sink.writes c.args.writer.now)

pub returns-in-Ok-false-clause-runs : goal.returns-in-Ok-false-clause-runs
returns-in-Ok-false-clause-runs g c known first had h r =
    let l = c.loop-count in
    run_ends known first had h l.recorder (g.R.Source.remaining l.reader) (g.W.Sink.contents l.writer) l.count l.next
    (l.invariant.1 known first had h r) (c.in-Ok-false.is ∙ ap (λ (b : Bool). Ok b) c.in-Ok-false.field-0-test)

pub returns-in-Err-clause-runs : goal.returns-in-Err-clause-runs
returns-in-Err-clause-runs g c known first had h r =
    let l = c.loop-count in
    run_stops known first had h l.recorder (g.R.Source.remaining l.reader) (g.W.Sink.contents l.writer) l.count l.next c.in-Err.fault
    (l.invariant.1 known first had h r) c.in-Err.is l.invariant.0

pub entry-requires : goal.entry-requires
entry-requires g c =
    let l = c.loop-count in
    let ready = subst (IsReady l.recorder.entry.lines) (c.in-Ok-true.is ∙ ap (λ (b : Bool). Ok b) c.in-Ok-true.field-0-test)
    l.invariant.0 in
    ready.0

pub returns-in_err-entry-clause-runs : goal.returns-in_err-entry-clause-runs
returns-in_err-entry-clause-runs g c =
    let l = c.loop-count in
    let from = g.R.Source.remaining c.args.reader.now in
    let has = g.W.Sink.contents c.args.writer.now in
    let now = g.W.Sink.contents l.writer in
    let w : Recorder = c.entry.new.self in
    carried_as c.from_residual.result c.in_err-entry.field-0.0
    (λ (ran : Result ℕ RecordFault). (known : Option (List ℕ)) (first : List ℕ) (had : Option (List ℕ)) (h : Header) →
    Runs known first had h c.args.recorder.now from has c.args.first 0 → RunsTo known first had h w.output.items now ran)
    c.from_residual.ensures.1
    (λ known first had h r.
    entry_fails known first had h l.recorder w (g.R.Source.remaining l.reader) (g.R.Source.remaining c.entry.new.reader) now l.next l.count
    (l.invariant.1 known first had h r) (c.in-Ok-true.is ∙ ap (λ (b : Bool). Ok b) c.in-Ok-true.field-0-test) c.in_err-entry.field-0.0
    c.in_err-entry.ensures.fails)

pub returns-in_err-send_waiting-clause-runs : goal.returns-in_err-send_waiting-clause-runs
returns-in_err-send_waiting-clause-runs g c =
    let l = c.loop-count in
    let from = g.R.Source.remaining c.args.reader.now in
    let has = g.W.Sink.contents c.args.writer.now in
    let now = g.W.Sink.contents c.send_waiting.new.writer in
    let w : Recorder = c.entry.new.self in
    let waits : List ℕ = c.send_waiting.new.output.items in
    carried_as c.from_residual-in_err-send_waiting.result c.in_err-send_waiting.field-0.0
    (λ (ran : Result ℕ RecordFault). (known : Option (List ℕ)) (first : List ℕ) (had : Option (List ℕ)) (h : Header) →
    Runs known first had h c.args.recorder.now from has c.args.first 0 → RunsTo known first had h waits now ran)
    c.from_residual-in_err-send_waiting.ensures.1
    (λ known first had h r.
    let b =
    entry_added known first had h l.recorder w (g.R.Source.remaining l.reader) (g.R.Source.remaining c.entry.new.reader)
    (g.W.Sink.contents l.writer) l.next l.count (l.invariant.1 known first had h r)
    (c.in-Ok-true.is ∙ ap (λ (b : Bool). Ok b) c.in-Ok-true.field-0-test) c.in_ok-entry.ensures.goes in
    subst (λ (f : RecordFault). RunsTo known first had h waits now (Err f)) (sym c.in_err-send_waiting.ensures.fault)
    (entry_unwritten known first had h w (g.R.Source.remaining c.entry.new.reader) (g.W.Sink.contents l.writer) now (suc l.count) b waits
    c.in_err-send_waiting.ensures.err))

pub loop-count-preserved : goal.loop-count-preserved
loop-count-preserved g c = (
  c.next_command-next.ensures.ready,
  λ known first had h r.
      let l = c.loop-count in
      let w : Recorder = c.entry.new.self in
      let new : Recorder =
      record w { entry = record w.entry { lines = c.next_command-next.new.lines }; output = c.send_waiting.new.output } in
      let to = g.R.Source.remaining c.next_command-next.new.reader in
      let now = g.W.Sink.contents c.send_waiting.new.writer in
      let b =
      entry_added known first had h l.recorder w (g.R.Source.remaining l.reader) (g.R.Source.remaining c.entry.new.reader)
      (g.W.Sink.contents l.writer) l.next l.count (l.invariant.1 known first had h r)
      (c.in-Ok-true.is ∙ ap (λ (b : Bool). Ok b) c.in-Ok-true.field-0-test) c.in_ok-entry.ensures.goes in
      let more : suc l.count ≡ l.count + 1 = omega arith in
      subst (λ (n : ℕ). Runs known first had h new to now c.next_command-next.result n) more
      (entry_written known first had h w (g.R.Source.remaining c.entry.new.reader) (g.W.Sink.contents l.writer) now (suc l.count) b new
      c.send_waiting.new.output.items c.next_command-next.new.lines to c.next_command-next.result refl refl refl refl
      c.in_ok-send_waiting.ensures.ok c.next_command-next.ensures.comes),
  λ first led.
      let l = c.loop-count in
      c.next_command-next.ensures.reads first
      (c.in_ok-entry.ensures.led first
      (subst
      (λ (r : Result Bool RecordFault). ReadsLead g.R.Source r first l.reader l.recorder.entry.lines.reads)
      (c.in-Ok-true.is ∙ ap (λ (b : Bool). Ok b) c.in-Ok-true.field-0-test) (l.invariant.2 first led))),
  only_calls_on g.W.Sink.writes c.args.writer.now c.loop-count.writer c.send_waiting.new.writer c.loop-count.invariant.3
      c.in_ok-send_waiting.ensures.led,
)

pub returns-clause-runs : goal.returns-clause-runs
returns-clause-runs g c known first had h r =
    let l = c.loop-count in
    run_full known first had h l.recorder (g.R.Source.remaining l.reader) (g.W.Sink.contents l.writer) l.count l.next
    (l.invariant.1 known first had h r)

pub returns-in-Err-clause-cause : goal.returns-in-Err-clause-cause
returns-in-Err-clause-cause g c first led =
    let l = c.loop-count in
    input_cause g.R.Source g.W.Sink c.in-Err.fault first l.reader c.args.writer.now l.writer l.invariant.3
    (subst (IsReady l.recorder.entry.lines) c.in-Err.is l.invariant.0)
    (subst
    (λ (r : Result Bool RecordFault). ReadsLead g.R.Source r first l.reader l.recorder.entry.lines.reads) c.in-Err.is
    (l.invariant.2 first led))

pub returns-in_err-entry-clause-cause : goal.returns-in_err-entry-clause-cause
returns-in_err-entry-clause-cause g c =
    carried c.from_residual.result c.in_err-entry.field-0.0 _ c.from_residual.ensures.1
    (λ first led.
    let l = c.loop-count in
    input_cause g.R.Source g.W.Sink c.in_err-entry.field-0.0 first c.entry.new.reader c.args.writer.now l.writer l.invariant.3
    c.in_err-entry.ensures.fails.0
    (c.in_err-entry.ensures.cause first
    (subst
    (λ (r : Result Bool RecordFault). ReadsLead g.R.Source r first l.reader l.recorder.entry.lines.reads)
    (c.in-Ok-true.is ∙ ap (λ (b : Bool). Ok b) c.in-Ok-true.field-0-test) (l.invariant.2 first led))))

pub returns-in_err-send_waiting-clause-cause : goal.returns-in_err-send_waiting-clause-cause
returns-in_err-send_waiting-clause-cause g c =
    carried c.from_residual-in_err-send_waiting.result c.in_err-send_waiting.field-0.0 _ c.from_residual-in_err-send_waiting.ensures.1
    (λ first led.
    let l = c.loop-count in
    subst (λ (f : RecordFault). IsToBlame g.R.Source g.W.Sink f first c.entry.new.reader c.args.writer.now c.send_waiting.new.writer)
    (sym c.in_err-send_waiting.ensures.fault)
    (failed_on g.W.Sink.writes g.W.Sink.fails c.args.writer.now l.writer c.send_waiting.new.writer l.invariant.3
    c.in_err-send_waiting.ensures.cause))

pub returns-in-Ok-false-clause-led : goal.returns-in-Ok-false-clause-led
returns-in-Ok-false-clause-led g c = c.loop-count.invariant.3

pub returns-clause-cause : goal.returns-clause-cause
returns-clause-cause g c first led = c.loop-count.invariant.3
