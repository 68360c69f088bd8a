use Rattle.std.proofs.Common.{inl, inr, subst}
use Rattle.rs_core.specs.declared.event.Event.{Event}
use Rattle.std.specs.Option.{option_copied}
use Rattle.script_answers.specs.Outcome.{side_line}
use Rattle.script_answers.specs.Reply.{refused_noroom}
use Rattle.script_answers.proofs.ResultLemmas.{on_ok}
use Rattle.ds_script.specs.Answer.{entries_text, AnswersByServices}
use Rattle.ds_script.proofs.EventLemmas.{is_event, event_answers, entries_answers, entries_refused, ring_answers, side_answers}
use Rattle.ds_script.proofs.EventLemmas.{settings_answers, answers_as}
use Rattle.ds_script.proofs.answer.answer_command.Goals as goal

pub returns-in-Entries-clause-answered : goal.returns-in-Entries-clause-answered
returns-in-Entries-clause-answered c =
    let m = option_copied c.map.result in
    on_ok c.append_entries.result
    (λ a. elim a [
      | inl refused ↦ (
        refused_noroom,
        refused.1,
        entries_refused c.args.command c.in-Entries.map c.args.session.now m c.in-Entries.is c.map.ensures
            refused.0,
      )
      | inr same ↦
          (entries_text m, same, entries_answers c.args.command c.in-Entries.map c.args.session.now m c.in-Entries.is c.map.ensures)
    ])
    c.append_entries.ensures.answered

pub returns-in-Ring-clause-answered : goal.returns-in-Ring-clause-answered
returns-in-Ring-clause-answered c =
    on_ok c.answer_ring.result
    (λ a. (a.0, a.1, ring_answers c.args.command c.in-Ring.ring c.args.session.now a.0 c.answer_ring.new.session c.in-Ring.is a.2))
    c.answer_ring.ensures.answered

pub returns-in-Side-clause-answered : goal.returns-in-Side-clause-answered
returns-in-Side-clause-answered c =
    on_ok c.answer_side.result
    (λ a. (
      side_line c.in-Side.side,
      a.0,
      side_answers c.args.command c.in-Side.side c.args.session.now c.answer_side.new.session c.in-Side.is
          a.1,
    )) c.answer_side.ensures.answered

pub returns-in-Settings-clause-answered : goal.returns-in-Settings-clause-answered
returns-in-Settings-clause-answered c =
    on_ok c.accept.result
    (λ a. (a.0, a.1, settings_answers c.args.command c.in-Settings.text c.args.session.now a.0 c.accept.new.self c.in-Settings.is a.2))
    c.accept.ensures.answered

pub returns-in-Service-clause-answered : goal.returns-in-Service-clause-answered
returns-in-Service-clause-answered c =
    on_ok c.serve.result
    (λ a. (
      a.0,
      a.1,
      answers_as c.args.command _ c.args.session.now a.0 c.serve.new.self c.in-Service.is
          (subst (λ (e : Event). AnswersByServices e c.in-Service.tick c.args.session.now a.0 c.serve.new.self) c.requested.ensures a.2),
    ))
    c.serve.ensures.answered

pub returns-in-Death-clause-answered : goal.returns-in-Death-clause-answered
returns-in-Death-clause-answered c =
    on_ok c.serve-in-Death.result
    (λ a. (a.0, a.1, answers_as c.args.command _ c.args.session.now a.0 c.serve-in-Death.new.self c.in-Death.is a.2))
    c.serve-in-Death.ensures.answered

pub returns-in-Beat-clause-answered : goal.returns-in-Beat-clause-answered
returns-in-Beat-clause-answered c =
    on_ok c.serve-in-Beat.result
    (λ a. (a.0, a.1, answers_as c.args.command _ c.args.session.now a.0 c.serve-in-Beat.new.self c.in-Beat.is a.2))
    c.serve-in-Beat.ensures.answered

pub returns-in-Tick-clause-answered : goal.returns-in-Tick-clause-answered
returns-in-Tick-clause-answered c =
    on_ok c.serve-in-Tick.result
    (λ a. (a.0, a.1, answers_as c.args.command _ c.args.session.now a.0 c.serve-in-Tick.new.self c.in-Tick.is a.2))
    c.serve-in-Tick.ensures.answered

pub returns-in-Assign-clause-answered : goal.returns-in-Assign-clause-answered
returns-in-Assign-clause-answered c =
    on_ok c.assign.result (λ a. (a.0, a.1, answers_as c.args.command _ c.args.session.now a.0 c.assign.new.self c.in-Assign.is a.2))
    c.assign.ensures.answered

pub returns-in-Follow-clause-answered : goal.returns-in-Follow-clause-answered
returns-in-Follow-clause-answered c =
    on_ok c.follow.result (λ a. (a.0, a.1, answers_as c.args.command _ c.args.session.now a.0 c.follow.new.self c.in-Follow.is a.2))
    c.follow.ensures.answered

pub returns-in-Submit-clause-answered : goal.returns-in-Submit-clause-answered
returns-in-Submit-clause-answered c =
    on_ok c.submit.result (λ a. (a.0, a.1, answers_as c.args.command _ c.args.session.now a.0 c.submit.new.self c.in-Submit.is a.2))
    c.submit.ensures.answered

pub returns-in-Reply-clause-answered : goal.returns-in-Reply-clause-answered
returns-in-Reply-clause-answered c =
    on_ok c.reply.result (λ a. (a.0, a.1, answers_as c.args.command _ c.args.session.now a.0 c.reply.new.self c.in-Reply.is a.2))
    c.reply.ensures.answered

pub answer_event-requires-clause-event : goal.answer_event-requires-clause-event
answer_event-requires-clause-event c =
    let not = c.in_default in
    is_event c.args.session.now.side c.args.command not.not-Show not.not-All not.not-Entries not.not-Ring not.not-Side not.not-Settings
    not.not-Service not.not-Death not.not-Beat
    not.not-Tick not.not-Assign not.not-Follow not.not-Submit not.not-Reply

pub returns-in_default-clause-answered : goal.returns-in_default-clause-answered
returns-in_default-clause-answered c =
    on_ok c.answer_event.result (λ a. (a.0, a.1, event_answers c.args.command c.args.session.now a.0 c.answer_event.new.session a.2))
    c.answer_event.ensures.answered
