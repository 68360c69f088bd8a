use Rattle.std.proofs.Common.{◌≡◌, Ok, Err, sym, ◌∙◌, arith}
use Rattle.std.proofs.lemmas.Bool.{false≢true}
use Rattle.std.proofs.lemmas.Result.{IfErr-weaker}
use Rattle.script_answers.proofs.ResultLemmas.{on_ok}
use Rattle.ds_script.proofs.LineLemmas.{line_after, offer_line, answered_after, unread_after, unread_fault, keeps}
use Rattle.ds_script.proofs.line.answer_line.Goals as goal

pub returns-in-Ok-answer_command-clause-ok : goal.returns-in-Ok-answer_command-clause-ok
returns-in-Ok-answer_command-clause-ok c =
    let read = line_after c.args.before c.args.line.now (Ok c.in-Ok.command) c.in-Ok.ensures.first c.in-Ok.ensures.later in
    let a = (c.in-Ok-answer_command.ensures).answered in (
      a.0,
      a.1,
      answered_after c.args.before c.args.line.now a.0 c.in-Ok.command c.args.session.now c.answer_command.new.session
          (omega (arith, c.if-line.false)) read a.2,
    )

pub returns-in-Err-clause-ok : goal.returns-in-Err-clause-ok
returns-in-Err-clause-ok c =
    let line = c.args.line.now in
    let read = line_after c.args.before line (Err c.in-Err.fault) c.in-Err.ensures.first c.in-Err.ensures.later in
    on_ok c.answer_unread.result (unread_after c.args.before line c.args.output.now.items c.answer_unread.new.output.items c.in-Err.fault
    c.args.session.now (omega (arith, c.if-line.false)) read)
    c.answer_unread.ensures.answered

pub returns-in-Err-clause-fault : goal.returns-in-Err-clause-fault
returns-in-Err-clause-fault c =
    let line = c.args.line.now in
    let read = line_after c.args.before line (Err c.in-Err.fault) c.in-Err.ensures.first c.in-Err.ensures.later in
    IfErr-weaker c.answer_unread.result (λ told. told ≡ c.in-Err.fault) _
    (λ told same. unread_fault c.args.before c.in-Err.fault told line (omega (arith, c.if-line.false)) read same)
    c.answer_unread.ensures.told

pub returns-in-Err-clause-kept : goal.returns-in-Err-clause-kept
returns-in-Err-clause-kept c = IfErr-weaker c.answer_unread.result (λ told. told ≡ c.in-Err.fault) _
    (λ told same. keeps told c.args.session.now) c.answer_unread.ensures.told

pub returns-then-is_offer-clause-ok : goal.returns-then-is_offer-clause-ok
returns-then-is_offer-clause-ok c = on_ok c.fast_offer.result (λ answered. answered c.args.before) c.fast_offer.ensures.ok

pub returns-then-is_offer-clause-fault : goal.returns-then-is_offer-clause-fault
returns-then-is_offer-clause-fault c = IfErr-weaker c.fast_offer.result _ _ (λ told is. is c.args.before) c.fast_offer.ensures.fault

pub returns-then-is_publish-clause-ok : goal.returns-then-is_publish-clause-ok
returns-then-is_publish-clause-ok c = on_ok c.fast_publish.result (λ answered. answered c.args.before) c.fast_publish.ensures.ok

pub returns-then-is_publish-clause-fault : goal.returns-then-is_publish-clause-fault
returns-then-is_publish-clause-fault c = IfErr-weaker c.fast_publish.result _ _ (λ told is. is c.args.before) c.fast_publish.ensures.fault

pub returns-then-is_retrieve-clause-ok : goal.returns-then-is_retrieve-clause-ok
returns-then-is_retrieve-clause-ok c = on_ok c.fast_retrieve.result (λ answered. answered c.args.before) c.fast_retrieve.ensures.ok

pub returns-then-is_retrieve-clause-fault : goal.returns-then-is_retrieve-clause-fault
returns-then-is_retrieve-clause-fault c = IfErr-weaker c.fast_retrieve.result _ _ (λ told is. is c.args.before)
    c.fast_retrieve.ensures.fault

pub answer_command-requires-clause-other : goal.answer_command-requires-clause-other
answer_command-requires-clause-other c =
    offer_line c.args.before c.args.line.now c.in-Ok.command
    (line_after c.args.before c.args.line.now (Ok c.in-Ok.command) c.in-Ok.ensures.first c.in-Ok.ensures.later)
    (λ offer. false≢true (sym c.if-is_offer.false ∙ c.is_offer.ensures.1 offer))
