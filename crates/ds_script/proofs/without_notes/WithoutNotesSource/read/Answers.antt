use Rattle.std.proofs.Common.{take, arith, ◌∙◌}
use Rattle.line_io.proofs.CallLemmas.{leads_more}
use Rattle.ds_script.proofs.NoteCauseLemmas.{told_at}
use Rattle.ds_script.proofs.SourceLemmas.{given_on, passed_on, long_as_before}
use Rattle.ds_script.proofs.without_notes.WithoutNotesSource.read.Goals as goal

pub returns-then-kept-gt0-clause-bytes : goal.returns-then-kept-gt0-clause-bytes
returns-then-kept-gt0-clause-bytes g c =
    let remaining = g.R.Source.remaining in
    let from = c.loop-again.self in
    let keep = c.keep-kept.ensures in (
      given_on c.args.self.now.place from.place c.keep-kept.new.place (remaining c.args.self.now.reader.now) (remaining from.reader.now)
          (remaining c.read.new.self) (take c.in_ok-count.count c.read.new.buf) c.keep-kept.new.bytes _ c.keep-kept.result
          c.loop-again.invariant.passed c.in_ok-count.ensures.bytes.0 keep.after keep.kept keep.few,
      λ none room. absurd (omega (arith, c.if-kept-gt0.true, none)),
    )

pub loop-again-preserved : goal.loop-again-preserved
loop-again-preserved g c =
    let remaining = g.R.Source.remaining in
    let from = c.loop-again.self in
    let keep = c.keep-kept.ensures in
    record {
      same = long_as_before c.keep-kept.new.bytes c.read.new.buf c.in_ok-count.count _ keep.same c.in_ok-count.ensures.bound.0
          (c.read.auto.buf ∙ c.loop-again.invariant.same);
      passed = passed_on c.args.self.now.place from.place c.keep-kept.new.place (remaining c.args.self.now.reader.now)
          (remaining from.reader.now)
          (remaining c.read.new.self) (take c.in_ok-count.count c.read.new.buf) c.keep-kept.new.bytes c.keep-kept.result
          c.loop-again.invariant.passed c.in_ok-count.ensures.bytes.0 keep.after keep.kept (omega (arith, c.if-kept-gt0.false));
      same_reader = c.loop-again.invariant.same_reader;
      led = leads_more g.R.Source.reads c.loop-again._again c.args.self.now.reader.now from.reader.now c.read.new.self
          c.loop-again.invariant.led c.in_ok-count.ensures.told;
    }

-- ---- reads

pub returns-in_err-count-clause-told : goal.returns-in_err-count-clause-told
returns-in_err-count-clause-told g c =
    let r = g.R.Source in
    told_at (λ s. s.reader.now) (λ s. s.reader.ghost_name) r.reads r.fails c.from_residual.result c.in_err-count.field-0.0 c.args.self.now _
    c.loop-again.self.reader.now c.loop-again._again c.from_residual.ensures.1 c.loop-again.invariant.same_reader
    c.loop-again.invariant.led c.in_err-count.ensures.told
