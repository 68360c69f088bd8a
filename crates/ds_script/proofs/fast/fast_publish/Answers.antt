use Rattle.std.proofs.Common.{◌≡◌, Err}
use Rattle.std.proofs.lemmas.Result.{IfErr-weaker}
use Rattle.script_answers.proofs.ResultLemmas.{on_ok}
use Rattle.ds_machine.specs.declared.command.Command.TheVariants.{Publish}
use Rattle.script_commands.specs.declared.command.ScriptCommand.TheVariants.{Store}
use Rattle.ds_script.proofs.LineLemmas.{read_after, event_after, unread_after, unread_fault, keeps}
use Rattle.ds_script.proofs.fast.fast_publish.Goals as goal

pub returns-in-Err-clause-ok : goal.returns-in-Err-clause-ok
returns-in-Err-clause-ok c =
    on_ok c.answer_unread.result
    (λ answered before. unread_after before c.args.line.now c.args.output.now.items c.answer_unread.new.output.items c.in-Err.fault
    c.args.session.now c.requires.short
    (read_after before c.args.line.now (Err c.in-Err.fault) c.in-Err.ensures.first c.in-Err.ensures.later) answered)
    c.answer_unread.ensures.answered

pub returns-in-Err-clause-fault : goal.returns-in-Err-clause-fault
returns-in-Err-clause-fault c =
    IfErr-weaker c.answer_unread.result (λ told. told ≡ c.in-Err.fault) _
    (λ told same before. unread_fault before c.in-Err.fault told c.args.line.now c.requires.short
    (read_after before c.args.line.now (Err c.in-Err.fault) c.in-Err.ensures.first c.in-Err.ensures.later) same)
    c.answer_unread.ensures.told

pub returns-in-Err-clause-kept : goal.returns-in-Err-clause-kept
returns-in-Err-clause-kept c = IfErr-weaker c.answer_unread.result (λ told. told ≡ c.in-Err.fault) _
    (λ told same. keeps told c.args.session.now) c.answer_unread.ensures.told

pub returns-in-Ok-answer_asked-clause-ok : goal.returns-in-Ok-answer_asked-clause-ok
returns-in-Ok-answer_asked-clause-ok c = λ before.
    let p = c.in-Ok.publication in
    let a = (c.in-Ok-answer_asked.ensures).answered in (
      a.0,
      a.1,
      event_after before c.args.line.now a.0 (Store (Publish p.caller p.key p.version p.value p.overwrite)) c.args.session.now
          c.answer_asked.new.session c.requires.short c.in-Ok.ensures.first c.in-Ok.ensures.later a.2,
    )
