use Rattle.std.proofs.Common.{◌++◌, ◌∙◌, sym, ap, subst}
use Rattle.ds_content.specs.Content.{ContentRecord}
use Rattle.ds_content.specs.Stands.{ContentStands}
use Rattle.script_answers.specs.Reply.{reply_lines}
use Rattle.script_answers.specs.declared.wording.Wording.{Wording}
use Rattle.script_answers.proofs.ResultLemmas.{on_ok}
use Rattle.trace_walk.specs.Text.{marked}
use Rattle.trace_record.proofs.recorder.Recorder.answer.Goals as goal

pub returns-clause-goes : goal.returns-clause-goes
returns-clause-goes c =
    on_ok c.add_reply.result
    (λ a. (
      a.header,
      a.lines,
      λ s stands traced.
          let old = c.args.self.now in
          let answer = c.in_ok-answer.answer in
          let q = c.in_ok-answer.ensures.step s stands traced in
          record {
            command = q.0;
            new_state = q.1;
            reply = answer.reply;
            asks = q.2;
            step = q.3;
            last = q.4;
            stands = subst (λ (k : ContentRecord). ContentStands k q.1) (sym a.store) q.5;
            output = a.output ∙ ap (λ (w : Wording).
                old.output.items ++ (old.entry.text.items ++ marked (reply_lines w answer.reply old.header.limits)))
                c.in_ok-answer.ensures.wording;
          },
    ))
    c.add_reply.ensures.adds
