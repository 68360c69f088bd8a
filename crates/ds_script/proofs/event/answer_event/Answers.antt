use Rattle.std.proofs.Common.{inl, sym, ◌∙◌}
use Rattle.ds_script.specs.Answer.{told_lines}
use Rattle.script_answers.proofs.ResultLemmas.{on_ok}
use Rattle.ds_script.proofs.EventLemmas.{as_event}
use Rattle.ds_script.proofs.event.answer_event.Goals as goal

pub returns-clause-answered : goal.returns-clause-answered
returns-clause-answered c =
    let outcome = c.happen-outcome.result in
    let new = c.happen-outcome.new.self in
    let out = told_lines c.wording-wording.result outcome new.world.messages in
    on_ok c.append_told.result
    (λ same. (
      out,
      same,
      inl
          (as_event c.args.command c.wording-wording.result c.side.result c.in-Ok-Some.event outcome c.args.session.now new
          c.wording-wording.ensures c.side.ensures (sym c.in-Ok-Some.field-0-is ∙ c.in-Ok-Some.ensures.event)
          c.happen-outcome.ensures),
    ))
    c.append_told.ensures.written
