use Rattle.std.proofs.Common.{◌++◌, ◌∙◌, List, ℕ, refl, ap, append-nil}
use Rattle.script_answers.specs.Reply.{reply_lines}
use Rattle.trace_walk.specs.Text.{marked}
use Rattle.trace_record.proofs.recorder.Recorder.add_reply.Goals as goal

pub returns-clause-adds : goal.returns-clause-adds
returns-clause-adds c =
    let old = c.args.self.now in
    let lines = c.as_slice.ensures.value ∙ c.in_ok-append_reply.ensures.written ∙
    ap (λ (l : List ℕ). l ++ reply_lines c.args.wording c.args.reply.now old.header.limits) c.clear.ensures.items in
    record {
      header = refl;
      lines = refl;
      store = refl;
      output =
          c.in_ok-append_all.ensures.written
          ∙ ap (λ (l : List ℕ). old.output.items ++ l)
          (append-nil c.as_slice-2.result.now ∙ c.as_slice-2.ensures.value ∙ c.in_ok-append_marked.ensures
          ∙ ap (λ (l : List ℕ). old.entry.text.items ++ marked l) lines);
    }
