use Rattle.std.proofs.Common.{◌++◌, inl, refl, ap, ◌∙◌}
use Rattle.ds_held.specs.Limits.{LimitsRecord, larger}
use Rattle.ds_replica.specs.declared.outcome.Outcome.TheVariants.{Replied}
use Rattle.script_answers.specs.Reply.{reply_lines}
use Rattle.script_answers.specs.declared.wording.Wording.TheVariants.{AsMerge}
use Rattle.script_answers.proofs.ResultLemmas.{on_ok}
use Rattle.ds_script.proofs.fast.answer_asked.Goals as goal

pub returns-clause-answered : goal.returns-clause-answered
returns-clause-answered c =
    let reply = c.ask-reply.result in
    on_ok c.append_reply.result
    (λ written. (
      reply_lines AsMerge reply larger,
      written ∙ ap (λ (l : LimitsRecord). c.args.output.now.items ++ reply_lines AsMerge reply l) c.larger.ensures,
      inl (record { outcome = Replied reply; happens = c.ask-reply.ensures; told = refl }),
    ))
    c.append_reply.ensures.written
