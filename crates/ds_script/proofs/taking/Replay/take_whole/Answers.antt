use Rattle.std.proofs.Common.{◌≡◌, ◌∙◌, [], List, ℕ, refl, sym, ap, subst, arith, append-nil}
use Rattle.std.proofs.lemmas.Result.{err_from_is_err_and}
use Rattle.line_io.specs.Lines.{EndsLine, IsUnbroken}
use Rattle.line_io.specs.Reading.{LinesContent}
use Rattle.ds_script.specs.Progress.{Reached}
use Rattle.ds_script.specs.Taking.{reached, written}
use Rattle.ds_script.proofs.ProgressLemmas.{takes_none, where_both}
use Rattle.ds_script.proofs.RunLemmas.{text_none, text_more, text_kept, line_stops, stops_then}
use Rattle.line_io.specs.Streams.{OnlyCalls}
use Rattle.line_io.proofs.CallLemmas.{no_calls, only_calls_on}
use Rattle.ds_script.proofs.CauseLemmas.{write_cause_on}
use Rattle.ds_script.proofs.taking.Replay.take_whole.Goals as goal

pub loop-self-init : goal.loop-self-init
loop-self-init g c =
    let had = written g.W.Sink c.args.self.now in
    let old : Reached = reached c.args.self.now in
    record {
      text = text_none had had old old c.args.lines.now.rest (takes_none had old);
      count = c.requires.count;
      reads = refl;
      same =
          refl;
      wrote = no_calls g.W.Sink.writes c.args.self.now.writer.now;
    }

pub take_line-requires-clause-line : goal.take_line-requires-clause-line
take_line-requires-clause-line g c = subst EndsLine (sym c.line.ensures) (c.next.ensures.found c.loop-self-test.true).ends

pub take_line-requires-clause-few : goal.take_line-requires-clause-few
take_line-requires-clause-few g c =
    let n = c.next.ensures.found c.loop-self-test.true in
    omega (arith, c.loop-self.invariant.count, n.count, c.next.ensures.few)

pub judge_front-requires-clause-front : goal.judge_front-requires-clause-front
judge_front-requires-clause-front g c =
    let kept = c.next.ensures.kept c.loop-self-test.false in
    subst IsUnbroken (sym (c.front.ensures ∙ ap (λ (l : LinesContent). l.rest) kept)) (c.next.ensures.none c.loop-self-test.false)

pub judge_front-requires-clause-few : goal.judge_front-requires-clause-few
judge_front-requires-clause-few g c =
    let kept = c.next.ensures.kept c.loop-self-test.false in
    omega (arith, c.loop-self.invariant.count, ap (λ (l : LinesContent). l.count) kept, c.next.ensures.few)

pub loop-self-preserved : goal.loop-self-preserved
loop-self-preserved g c =
    let i = c.loop-self.invariant in
    let n = c.next.ensures.found c.loop-self-test.true in
    let is = c.line.ensures ∙ n.ends.parts in
    let t = (c.in_ok-take_line.ensures).takes in
    let one = t.1 n.ends.front is in
    let a = written g.W.Sink c.args.self.now in
    let b = written g.W.Sink c.loop-self.self in
    let d = written g.W.Sink c.take_line.new.self in
    record {
      text =
          text_more a b d (reached c.args.self.now) (reached c.loop-self.self) (reached c.take_line.new.self) c.args.lines.now.rest
          c.loop-self.lines.rest c.next.new.self.line c.next.new.self.rest n.ends.front i.text n.split n.ends.parts n.ends.none one;
      count = omega (arith, one.counted, i.count, n.count);
      reads = n.reads ∙ i.reads;
      same = (c.in_ok-take_line.ensures).same ∙ i.same;
      wrote = only_calls_on g.W.Sink.writes c.args.self.now.writer.now c.loop-self.self.writer.now c.take_line.new.self.writer.now i.wrote
          t.0;
    }

pub returns-in_err-take_line-clause-takes : goal.returns-in_err-take_line-clause-takes
returns-in_err-take_line-clause-takes g c =
    let exit = err_from_is_err_and c.from_residual.result c.from_residual.ensures.1 in
    let n = c.next.ensures.found c.loop-self-test.true in
    let e = (c.in_err-take_line.ensures).takes in
    let a = written g.W.Sink c.args.self.now in
    let b = written g.W.Sink c.loop-self.self in
    let d = written g.W.Sink c.take_line.new.self in
    rw (exit.1, exit.2) (
      write_cause_on g.W.Sink c.in_err-take_line.field-0.0 c.args.self.now.writer.now c.loop-self.self.writer.now
          c.take_line.new.self.writer.now c.loop-self.invariant.wrote e.0,
      λ to.
          line_stops c.in_err-take_line.field-0.0 to a b d (reached c.args.self.now) (reached c.loop-self.self) c.args.lines.now.rest
          c.loop-self.lines.rest c.next.new.self.line c.next.new.self.rest n.ends.front c.take_line.new.self.output.items
          c.loop-self.invariant.text n.split n.ends.parts n.ends.none (e.1 n.ends.front (c.line.ensures ∙ n.ends.parts)),
    )

pub returns-clause-takes : goal.returns-clause-takes
returns-clause-takes g c =
    let i = c.loop-self.invariant in
    let kept : c.next.new.self ≡ c.loop-self.lines = c.next.ensures.kept c.loop-self-test.false in
    let left : c.next.new.self.rest ≡ c.loop-self.lines.rest = ap (λ (l : LinesContent). l.rest) kept in
    let front : List ℕ = c.front.result.now in
    let same : c.loop-self.lines.rest ≡ front = sym (c.front.ensures ∙ left) in
    let a = written g.W.Sink c.args.self.now in
    let b = written g.W.Sink c.loop-self.self in
    let d = written g.W.Sink c.judge_front.new.self in
    let old : Reached = reached c.args.self.now in
    let mid : Reached = reached c.loop-self.self in
    let new : Reached = reached c.judge_front.new.self in
    let text : List ℕ = c.args.lines.now.rest in
    let rest : List ℕ = c.loop-self.lines.rest in
    let from = c.args.self.now.writer.now in
    let at = c.loop-self.self.writer.now in
    let to = c.judge_front.new.self.writer.now in
    where_both c.judge_front.result
    (λ _ done. (
      subst (λ (w : g.row.W.Denot). OnlyCalls g.W.Sink.writes from w) (sym done.1) i.wrote,
      text_kept g.W.Sink.contents a c.loop-self.self.writer.now c.judge_front.new.self.writer.now old mid new text rest
          c.next.new.self.rest i.text done.0 done.1 left,
      subst IsUnbroken (sym left) (c.next.ensures.none c.loop-self-test.false),
    ))
    (λ fault stops. (
      write_cause_on g.W.Sink fault from at to i.wrote stops.0,
      λ to.
          stops_then fault to a b d old mid text rest [] front text c.judge_front.new.self.output.items i.text (append-nil rest ∙ same)
          (append-nil text) (stops.1 to),
    ))
    c.judge_front.ensures.takes
