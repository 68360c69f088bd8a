use Rattle.std.proofs.Common.{◌≡◌, ◌≢◌, ℕ, true, false, [], ap, sym, subst, ◌∙◌, inr, refl, rules, arith}
use Rattle.std.proofs.lemmas.Result.{err_from_is_err_and}
use Rattle.std.proofs.lemmas.List.Elements.{All-nil}
use Rattle.line_io.specs.Lines.{IsUnbroken}
use Rattle.line_io.specs.Reading.{LinesContent}
use Rattle.line_io.specs.Streams.{CallsLead}
use Rattle.ds_script.specs.Taking.{reached, written}
use Rattle.ds_script.specs.declared.fault.ReplayFault.{ReplayFault}
use Rattle.ds_script.proofs.ProgressLemmas.{where_known}
use Rattle.ds_script.proofs.CauseLemmas.{run_cause}
use Rattle.ds_script.proofs.EndLemmas.{Stopped, come_none, come_turn, come_end, come_stop, come_over}
use Rattle.line_io.proofs.CallLemmas.{no_calls, only_calls_on}
use Rattle.ds_script.proofs.taking.Replay.run.Goals as goal

pub loop-self-init : goal.loop-self-init
loop-self-init g c =
    let s = c.requires.start in
    let from = g.R.Source.remaining c.args.reader.now in
    let had = written g.W.Sink c.args.self.now in
    let none : c.args.lines.now.rest ≡ [] = ap (λ l. l.rest) s.nothing in
    record {
      come = come_none from had (reached c.args.self.now) c.args.lines.now.rest s.waiting s.bad none;
      unbroken = subst IsUnbroken (sym none) (All-nil (λ (x : ℕ). x ≢ 10));
      count = omega (arith, s.few, ap (λ (l : LinesContent). l.count) s.nothing);
      led = subst (λ (n : ℕ). CallsLead g.R.Source.reads n c.args.reader.now c.args.reader.now) (sym (ap (λ l. l.reads) s.nothing)) refl;
      same = refl;
      wrote = no_calls g.W.Sink.writes c.args.self.now.writer.now;
    }

pub returns-in_err-more-clause-err : goal.returns-in_err-more-clause-err
returns-in_err-more-clause-err g c =
    let i = c.loop-self.invariant in
    let exit = err_from_is_err_and c.from_residual.result c.from_residual.ensures.1 in
    let from = g.R.Source.remaining c.args.reader.now in
    let mid = g.R.Source.remaining c.loop-self.reader in
    let to = g.R.Source.remaining c.take_turn.new.reader in
    let a = written g.W.Sink c.args.self.now in
    let b = written g.W.Sink c.loop-self.self in
    let d = written g.W.Sink c.take_turn.new.self in
    let policy = c.args.self.now.bad_lines in
    let before = c.args.self.now.tally.lines in
    let first = c.args.self.now.session in
    let output = c.take_turn.new.self.output.items in
    let fault = c.in_err-more.field-0.0 in
    where_known (λ (fault : ReplayFault). Stopped policy before first fault from to a d output) c.from_residual.result exit.0 fault exit.1
    exit.2
    (come_stop fault from mid to a b d policy before first (reached c.loop-self.self) c.loop-self.lines.rest output i.come i.unbroken
    (c.in_err-more.ensures).turns.1)

pub returns-in_err-more-clause-cause : goal.returns-in_err-more-clause-cause
returns-in_err-more-clause-cause g c =
    let exit = err_from_is_err_and c.from_residual.result c.from_residual.ensures.1 in
    let i = c.loop-self.invariant in
    rw (exit.1, exit.2)
    (run_cause g.R.Source g.W.Sink c.in_err-more.field-0.0 c.loop-self.lines.reads c.args.reader.now c.loop-self.reader
    c.take_turn.new.reader
    c.args.self.now.writer.now c.loop-self.self.writer.now c.take_turn.new.self.writer.now i.led i.wrote (c.in_err-more.ensures).turns.0)

pub returns-then-not-more-clause-ok : goal.returns-then-not-more-clause-ok
returns-then-not-more-clause-ok g c =
    let i = c.loop-self.invariant in
    let from = g.R.Source.remaining c.args.reader.now in
    let mid = g.R.Source.remaining c.loop-self.reader in
    let to = g.R.Source.remaining c.take_turn.new.reader in
    let a = written g.W.Sink c.args.self.now in
    let b = written g.W.Sink c.loop-self.self in
    let d = written g.W.Sink c.take_turn.new.self in
    let last : c.in_ok-more.more ≡ false = search rules in
    come_end from mid to a b d c.args.self.now.bad_lines c.args.self.now.tally.lines c.args.self.now.session (reached
    c.loop-self.self) (reached c.take_turn.new.self) c.loop-self.lines.rest
    c.take_turn.new.lines.rest c.in_ok-more.more last i.come i.unbroken (c.in_ok-more.ensures).turns.2

pub loop-self-preserved : goal.loop-self-preserved
loop-self-preserved g c =
    let i = c.loop-self.invariant in
    let more : c.in_ok-more.more ≡ true = search rules in
    let from = g.R.Source.remaining c.args.reader.now in
    let mid = g.R.Source.remaining c.loop-self.reader in
    let to = g.R.Source.remaining c.take_turn.new.reader in
    let a = written g.W.Sink c.args.self.now in
    let b = written g.W.Sink c.loop-self.self in
    let d = written g.W.Sink c.take_turn.new.self in
    let e = c.in_ok-more.ensures in
    let t = come_turn from mid to a b d c.args.self.now.bad_lines c.args.self.now.tally.lines c.args.self.now.session (reached
    c.loop-self.self) (reached c.take_turn.new.self)
    c.loop-self.lines.rest c.take_turn.new.lines.rest c.in_ok-more.more more i.come e.turns.2 in
    let next = e.more more in
    record {
      come = t.0;
      unbroken = t.1;
      count = next.count;
      led = subst (λ (n : ℕ). CallsLead g.R.Source.reads n c.args.reader.now c.take_turn.new.reader) (sym next.reads)
          (c.loop-self.reader, i.led, e.turns.0);
      same = e.same ∙ i.same;
      wrote = only_calls_on g.W.Sink.writes c.args.self.now.writer.now c.loop-self.self.writer.now c.take_turn.new.self.writer.now i.wrote
          e.turns.1;
    }

pub returns-clause-err : goal.returns-clause-err
returns-clause-err g c =
    let i = c.loop-self.invariant in
    let from = g.R.Source.remaining c.args.reader.now in
    let to = g.R.Source.remaining c.loop-self.reader in
    let a = written g.W.Sink c.args.self.now in
    let b = written g.W.Sink c.loop-self.self in
    come_over from to a b c.args.self.now.bad_lines c.args.self.now.tally.lines c.args.self.now.session (reached c.loop-self.self)
    c.loop-self.lines.rest i.come i.unbroken

pub returns-clause-cause : goal.returns-clause-cause
returns-clause-cause g c =
    ((c.loop-self.lines.reads, inr (c.may_read.ensures.all c.loop-self-test.false, c.loop-self.invariant.led)), c.loop-self.invariant.wrote)
