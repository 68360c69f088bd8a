use Rattle.std.proofs.Common.{◌+◌, ◌∙◌, List, ℕ, Option, IfNone, arith, refl, sym, subst}
use Rattle.std.specs.Io.KnownBytes.{Appends}
use Rattle.line_io.proofs.CallLemmas.{no_calls, only_calls_on, failed_on}
use Rattle.trace_walk.specs.declared.passed.Passed.{Passed}
use Rattle.trace_walk.specs.Passing.{IsWrittenAs}
use Rattle.trace_walk.specs.Steps.{EndsThere, GoesPast}
use Rattle.trace_walk.proofs.FaultLemmas.{carried, some_at}
use Rattle.trace_walk.proofs.ReadLemmas.{on_and_on, stays}
use Rattle.trace_walk.specs.Reads.{CountsOn}
use Rattle.trace_check.proofs.CauseLemmas.{cause_upgraded}
use Rattle.trace_check.proofs.UpgradingLemmas.{ends_upgraded, goes_on_writing, sets_out, stops_between, stops_for, stops_within}
use Rattle.trace_check.proofs.upgrading.upgrade_entries.Goals as goal

pub loop-entry-init : goal.loop-entry-init
loop-entry-init g c = record {
  writes = λ b before w x. sets_out b before c.args.walk.now (g.R.Source.remaining c.args.reader.now) (g.W.Sink.contents c.args.writer.now)
      w x;
  reads = stays g.R.Source c.args.walk.now.entry.lines c.args.reader.now;
  counted = omega arith;
  few = omega arith;
  written = omega arith;
  wrote = no_calls g.W.Sink.writes c.args.writer.now;
}

pub loop-entry-preserved : goal.loop-entry-preserved
loop-entry-preserved g c =
    let l = c.loop-entry in
    let from = g.R.Source.remaining l.reader in
    let to = g.R.Source.remaining c.next.new.reader in
    let had = g.W.Sink.contents c.args.writer.now in
    let has = g.W.Sink.contents l.writer in
    let then = g.W.Sink.contents c.write_out.new.writer in
    let goes = some_at c.in_ok-passed.field-0 c.in-Some.passed (GoesPast l.walk from c.next.new.self to) c.in-Some.is
    c.in_ok-passed.ensures.goes in
    let more = some_at c.in_ok-passed.field-0 c.in-Some.passed (λ p. CountsOn l.walk.entry.lines c.next.new.self.entry.lines) c.in-Some.is
    c.in_ok-passed.ensures.counts in
    let written = subst (λ (t : List ℕ). IsWrittenAs c.next.new.self c.in-Some.passed t c.append_passed.new.text.items c.in_ok-count.count)
    c.clear.ensures.items c.in_ok-count.ensures.written in
    let sent = subst (λ (t : List ℕ). Appends has then t) c.as_slice.ensures.value c.in_ok-write_out.ensures.ok in
    record {
      writes = λ b before w x.
          goes_on_writing b before c.args.walk.now.header l.walk from had has l.written (l.invariant.writes b before w x) c.next.new.self
          to c.in-Some.passed goes c.append_passed.new.text.items c.in_ok-count.count written then
          (l.written + c.in_ok-count.count) refl sent;
      reads = on_and_on g.R.Source c.args.walk.now.entry.lines l.walk.entry.lines c.next.new.self.entry.lines c.args.reader.now l.reader
          c.next.new.reader l.invariant.reads c.in_ok-passed.ensures.reads;
      counted = omega (arith, l.invariant.counted, more.1);
      few = omega (arith, l.invariant.counted, more.0);
      written = omega (arith, l.invariant.written, c.in_ok-count.ensures.few);
      wrote = only_calls_on g.W.Sink.writes c.args.writer.now l.writer c.write_out.new.writer l.invariant.wrote
          c.in_ok-write_out.ensures.led;
    }

pub returns-in_default-clause-all : goal.returns-in_default-clause-all
returns-in_default-clause-all g c b before w x =
    let l = c.loop-entry in
    let from = g.R.Source.remaining l.reader in
    ends_upgraded b before c.args.walk.now.header l.walk from (g.W.Sink.contents c.args.writer.now) (g.W.Sink.contents l.writer) l.written
    (l.invariant.writes b before w x)
    (subst (λ (o : Option Passed). IfNone o (EndsThere l.walk from)) c.in_default.is c.in_ok-passed.ensures.ends)

pub returns-in_err-passed-clause-part : goal.returns-in_err-passed-clause-part
returns-in_err-passed-clause-part g c =
    carried c.from_residual.result _ _ c.from_residual.ensures.1
    (λ b before w x.
    let l = c.loop-entry in
    let u = l.invariant.writes b before w x in
    stops_for b before c.args.walk.now.header l.walk (g.R.Source.remaining l.reader) (g.W.Sink.contents c.args.writer.now)
    (g.W.Sink.contents l.writer) l.written u c.in_err-passed.field-0.0 (c.in_err-passed.ensures.fails u.now u.walks))

pub returns-in_err-count-clause-part : goal.returns-in_err-count-clause-part
returns-in_err-count-clause-part g c =
    carried c.from_residual-in_err-count.result _ _ c.from_residual-in_err-count.ensures.1
    (λ b before w x.
    let l = c.loop-entry in
    stops_between b before c.args.walk.now.header l.walk (g.R.Source.remaining l.reader) (g.W.Sink.contents c.args.writer.now)
    (g.W.Sink.contents l.writer) l.written (l.invariant.writes b before w x))

pub returns-in_err-write_out-clause-part : goal.returns-in_err-write_out-clause-part
returns-in_err-write_out-clause-part g c =
    carried c.from_residual-in_err-write_out.result _ _ c.from_residual-in_err-write_out.ensures.1
    (λ b before w x.
    let l = c.loop-entry in
    let from = g.R.Source.remaining l.reader in
    let to = g.R.Source.remaining c.next.new.reader in
    let had = g.W.Sink.contents c.args.writer.now in
    let has = g.W.Sink.contents l.writer in
    let then = g.W.Sink.contents c.write_out.new.writer in
    let goes = some_at c.in_ok-passed.field-0 c.in-Some.passed (GoesPast l.walk from c.next.new.self to) c.in-Some.is
    c.in_ok-passed.ensures.goes in
    let written = subst (λ (t : List ℕ). IsWrittenAs c.next.new.self c.in-Some.passed t c.append_passed.new.text.items c.in_ok-count.count)
    c.clear.ensures.items c.in_ok-count.ensures.written in
    let e = c.in_err-write_out.ensures.err in
    stops_within b before c.args.walk.now.header l.walk from had has l.written (l.invariant.writes b before w x) c.next.new.self to
    c.in-Some.passed goes c.append_passed.new.text.items c.in_ok-count.count written then
    e.0 e.1 (sym c.as_slice.ensures.value ∙ e.2) e.3)

pub returns-clause-part : goal.returns-clause-part
returns-clause-part g c b before w x =
    let l = c.loop-entry in
    stops_between b before c.args.walk.now.header l.walk (g.R.Source.remaining l.reader) (g.W.Sink.contents c.args.writer.now)
    (g.W.Sink.contents l.writer) l.written (l.invariant.writes b before w x)

pub returns-in_err-passed-clause-cause : goal.returns-in_err-passed-clause-cause
returns-in_err-passed-clause-cause g c =
    carried c.from_residual.result _ _ c.from_residual.ensures.1
    (λ first led.
    cause_upgraded g.R.Source g.W.Sink c.in_err-passed.field-0.0 first c.next.new.reader c.args.writer.now c.loop-entry.writer
    c.loop-entry.invariant.wrote (c.in_err-passed.ensures.reads first (c.loop-entry.invariant.reads.0 first led)))

pub returns-in_err-count-clause-cause : goal.returns-in_err-count-clause-cause
returns-in_err-count-clause-cause g c =
    carried c.from_residual-in_err-count.result _ _ c.from_residual-in_err-count.ensures.1 (λ first led. c.loop-entry.invariant.wrote)

pub returns-in_err-write_out-clause-cause : goal.returns-in_err-write_out-clause-cause
returns-in_err-write_out-clause-cause g c =
    carried c.from_residual-in_err-write_out.result _ _ c.from_residual-in_err-write_out.ensures.1
    (λ first led. failed_on g.W.Sink.writes g.W.Sink.fails c.args.writer.now c.loop-entry.writer c.write_out.new.writer
    c.loop-entry.invariant.wrote c.in_err-write_out.ensures.cause)

-- an input has fewer entries
pub returns-clause-cause : goal.returns-clause-cause
returns-clause-cause g c = absurd (omega (arith, c.loop-entry-test.false, c.loop-entry.invariant.few))
