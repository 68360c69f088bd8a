use Rattle.std.proofs.Common.{◌≡◌, Err}
use Rattle.std.proofs.lemmas.Result.{IfErr-weaker}
use Rattle.script_answers.proofs.ResultLemmas.{on_ok}
use Rattle.script_commands.specs.Command.{ReadsCommand}
use Rattle.script_commands.specs.Later.{ReadsLater}
use Rattle.script_commands.specs.declared.command.ScriptCommand.TheVariants.{Offer}
use Rattle.ds_script.proofs.LineLemmas.{read_after, offered_item, event_after, unread_after, unread_fault, keeps}
use Rattle.ds_script.proofs.fast.fast_offer.Goals as goal

pub returns-in-Err-clause-ok : goal.returns-in-Err-clause-ok
returns-in-Err-clause-ok c =
    on_ok c.answer_unread.result
    (λ answered before. unread_after before c.args.line.now c.args.output.now.items c.answer_unread.new.output.items c.in-Err.fault
    c.args.session.now c.requires.short
    (read_after before c.args.line.now (Err c.in-Err.fault) c.in-Err.ensures.first c.in-Err.ensures.later) answered)
    c.answer_unread.ensures.answered

pub returns-in-Err-clause-fault : goal.returns-in-Err-clause-fault
returns-in-Err-clause-fault c =
    IfErr-weaker c.answer_unread.result (λ told. told ≡ c.in-Err.fault) _
    (λ told same before. unread_fault before c.in-Err.fault told c.args.line.now c.requires.short
    (read_after before c.args.line.now (Err c.in-Err.fault) c.in-Err.ensures.first c.in-Err.ensures.later) same)
    c.answer_unread.ensures.told

pub returns-in-Err-clause-kept : goal.returns-in-Err-clause-kept
returns-in-Err-clause-kept c = IfErr-weaker c.answer_unread.result (λ told. told ≡ c.in-Err.fault) _
    (λ told same. keeps told c.args.session.now) c.answer_unread.ensures.told

pub returns-in-Ok-answer_offer-clause-ok : goal.returns-in-Ok-answer_offer-clause-ok
returns-in-Ok-answer_offer-clause-ok c = λ before.
    let line = c.args.line.now in
    let first = offered_item (ReadsCommand line) c.fast_offer.new.slot c.in-Some.item c.in-Some.is c.in-Ok.ensures.first in
    let later = offered_item (ReadsLater line) c.fast_offer.new.slot c.in-Some.item c.in-Some.is c.in-Ok.ensures.later in
    let a = (c.in-Ok-answer_offer.ensures).answered in (
      a.0,
      a.1,
      event_after before line a.0 (Offer c.in-Some.item) c.args.session.now c.answer_offer.new.session c.requires.short first
          later a.2,
    )
