use Rattle.std.proofs.Common.{◌≡◌, ◌++◌, ◌∙◌, List, ℕ, refl, sym, ap, subst}
use Rattle.std.proofs.lemmas.Result.{IfOk-weaker, IfErr-weaker}
use Rattle.line_io.specs.Lines.{EndsLine}
use Rattle.trace_walk.specs.Walking.{IsShort}
use Rattle.trace_walk.specs.Head.{IsHeadOf}
use Rattle.trace_record.specs.declared.fault.RecordFault.TheVariants.{NoRoom}
use Rattle.trace_record.specs.Asking.{asked_by}
use Rattle.trace_record.specs.Reading.{IsBadHead}
use Rattle.trace_walk.proofs.FaultLemmas.{carried}
use Rattle.trace_record.proofs.recorder.Recorder.head.Goals as goal

pub returns-in_err-append_asking-clause-fails : goal.returns-in_err-append_asking-clause-fails
returns-in_err-append_asking-clause-fails c = carried c.from_residual.result NoRoom _ c.from_residual.ensures.1 (tt, (refl, refl, refl))

pub read_asking-requires-clause-ends : goal.read_asking-requires-clause-ends
read_asking-requires-clause-ends c = subst EndsLine (sym c.line-line.ensures) c.requires

pub read_asking-requires-clause-text : goal.read_asking-requires-clause-text
read_asking-requires-clause-text c = c.as_slice.ensures.value ∙ c.in_ok-append_asking.ensures.written ∙
    ap (λ (l : List ℕ). l ++ asked_by c.line-line.result.now) c.clear.ensures.items

pub returns-clause-goes : goal.returns-clause-goes
returns-clause-goes c =
    let old = c.args.self.now in
    let begun = c.in_ok-append_asking.ensures.written ∙ ap (λ (l : List ℕ). l ++ asked_by c.line-line.result.now) c.clear.ensures.items ∙
    ap (λ (l : List ℕ). asked_by l) c.line-line.ensures in
    let text : c.as_slice.result.now ≡ asked_by old.entry.lines.line = c.as_slice.ensures.value ∙ begun in
    IfOk-weaker c.read_asking.result _ _
    (λ head found.
    record {
      pass = found.0;
      is = subst (IsHeadOf old.header.format found.0 head) text found.1;
      short = subst IsShort text found.2;
      begun =
          begun;
      keeps = (refl, refl, refl);
      stays = refl;
    })
    c.read_asking.ensures.found

pub returns-clause-fails : goal.returns-clause-fails
returns-clause-fails c =
    let format = c.args.self.now.header.format in
    IfErr-weaker c.read_asking.result _ _
    (λ fault f. (
      subst (λ (n : ℕ). IsBadHead format c.args.self.now.entry.lines.line n fault) c.count.ensures.value
          (subst (λ (l : List ℕ). IsBadHead format l c.count.result fault) c.line-line.ensures f),
      (refl, refl, refl),
    ))
    c.read_asking.ensures.fails
