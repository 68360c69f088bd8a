use Rattle.std.proofs.Common.{inl, subst}
use Rattle.ds_entry.specs.declared.body.Body.TheVariants.{Put}
use Rattle.ds_machine.specs.declared.command.Command.{Command}
use Rattle.ds_machine.specs.declared.command.Command.TheVariants.{Publish}
use Rattle.ds_machine.specs.Asking.{AskedChange}
use Rattle.ds_machine.specs.Machine.{Answers, asking, outcome}
use Rattle.ds_machine.proofs.FitLemmas.{replies_fit}
use Rattle.ds_store.specs.Last.{MayLackAsked}
use Rattle.ds_store.proofs.AnswerLemmas.{asked_last}
use Rattle.ds_store.proofs.store.Store.publish.Goals as goal

pub returns-clause-step : goal.returns-clause-step
returns-clause-step c = λ s stands.
    let r = c.ask.ensures.step s stands in
    (r.0, inl (subst (λ (a : AskedChange). Answers s (asking s a (Put c.args.value)) c.ask.result r.0) c.published.ensures r.1), r.2)

-- where lack of memory is reported
pub returns-clause-last : goal.returns-clause-last
returns-clause-last c = λ s stands.
    let command : Command = Publish c.args.caller c.args.key c.args.version c.args.value c.args.overwrite in
    let r = c.ask.ensures.step s stands in
    let of : Answers s (outcome s command) c.ask.result r.0 =
    subst (λ (a : AskedChange). Answers s (asking s a (Put c.args.value)) c.ask.result r.0) c.published.ensures r.1 in
    asked_last s command c.ask.result (replies_fit s r.0 command c.ask.result (inl of))
    (λ e. subst (λ (a : AskedChange). MayLackAsked s a (Put c.args.value)) c.published.ensures (c.ask.ensures.last e s stands))

-- the reply is one of a step from the state that the store stands for
pub returns-clause-fits : goal.returns-clause-fits
returns-clause-fits c =
    let at = c.cursor-stood.ensures.stood in
    let command : Command = Publish c.args.caller c.args.key c.args.version c.args.value c.args.overwrite in
    let r = c.ask.ensures.step at.0 at.1 in
    let of : Answers at.0 (outcome at.0 command) c.ask.result r.0 =
    subst (λ (a : AskedChange). Answers at.0 (asking at.0 a (Put c.args.value)) c.ask.result r.0) c.published.ensures r.1 in
    replies_fit at.0 r.0 command c.ask.result (inl of)
