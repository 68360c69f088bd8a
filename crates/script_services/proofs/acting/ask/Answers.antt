use Rattle.std.proofs.Common.{◌∙◌, ◌++◌, [], ◌∷◌, Option, refl, sym, ap, subst, append-nil}
use Rattle.ds_held.specs.Limits.{LimitsRecord, larger}
use Rattle.ds_machine.specs.declared.command.Command.{Command}
use Rattle.ds_replica.specs.declared.event.Event.TheVariants.{Ask}
use Rattle.ds_replica.specs.declared.outcome.Outcome.TheVariants.{Replied}
use Rattle.script_answers.proofs.ResultLemmas.{on_ok}
use Rattle.script_answers.specs.Reply.{reply_lines}
use Rattle.script_answers.specs.declared.wording.Wording.TheVariants.{AsMerge}
use Rattle.script_services.specs.Services.{AsksIfAny}
use Rattle.script_answers.proofs.AppendLemmas.{on_each}
use Rattle.script_services.proofs.ActionLemmas.{command_gives, asks_none}
use Rattle.script_services.proofs.acting.ask.Goals as goal

pub reply-reply-requires : goal.reply-reply-requires
reply-reply-requires c = command_gives c.args.action.now c.in-Some.command (sym c.command_of.ensures ∙ c.in-Some.is)

pub returns-in_default-clause-asked : goal.returns-in_default-clause-asked
returns-in_default-clause-asked c = (
  [],
  [],
  sym (append-nil c.args.output.now.items),
  asks_none c.args.side _ c.args.world.now
      (sym c.command_of.ensures ∙ c.in_default.is),
)

pub returns-clause-asked : goal.returns-clause-asked
returns-clause-asked c =
    let reply = c.reply-reply.result in
    on_ok c.append_reply.result
    (λ written. (
      reply_lines AsMerge reply larger,
      (Ask c.args.side c.in-Some.command, Replied reply) ∷ [],
      written ∙ ap (λ (l : LimitsRecord). c.args.output.now.items ++ reply_lines AsMerge reply l) c.larger.ensures,
      subst (λ (o : Option Command). AsksIfAny c.args.side o c.args.world.now (reply_lines AsMerge reply larger)
          ((Ask c.args.side c.in-Some.command, Replied reply) ∷ []) c.reply-reply.new.self) (sym c.in-Some.is ∙ c.command_of.ensures)
          (record { reply = reply; leads = c.reply-reply.ensures.leads; told = c.reply-reply.ensures.told; lines = refl; event = refl }),
    ))
    c.append_reply.ensures.written

pub returns-clause-sent : goal.returns-clause-sent
returns-clause-sent c =
    let reply = c.reply-reply.result in
    on_each c.append_reply.result (
      reply_lines AsMerge reply larger,
      (Ask c.args.side c.in-Some.command, Replied reply) ∷ [],
      subst (λ (o : Option Command). AsksIfAny c.args.side o c.args.world.now (reply_lines AsMerge reply larger)
          ((Ask c.args.side c.in-Some.command, Replied reply) ∷ []) c.reply-reply.new.self) (sym c.in-Some.is ∙ c.command_of.ensures)
          (record { reply = reply; leads = c.reply-reply.ensures.leads; told = c.reply-reply.ensures.told; lines = refl; event = refl }),
    )
