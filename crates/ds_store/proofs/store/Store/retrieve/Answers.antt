use Rattle.std.proofs.Common.{◌≡◌, true, false, Some, None, refl, sym, subst, inl, inr}
use Rattle.ds_entry.specs.declared.body.Value.{Value}
use Rattle.ds_machine.specs.Machine.{Step, live_at}
use Rattle.ds_machine.specs.declared.command.Command.TheVariants.{Retrieve}
use Rattle.ds_machine.specs.declared.reply.Reply.TheVariants.{Found}
use Rattle.ds_store.proofs.AnswerLemmas.{kind_in_place}
use Rattle.ds_store.proofs.FindLemmas.{retrieve_step}
use Rattle.ds_store.proofs.store.Store.retrieve.Goals as goal

pub returns-in_default-clause-step : goal.returns-in_default-clause-step
returns-in_default-clause-step c = λ s stands. (s, retrieve_step s c.args.key.now None (c.in_default.ensures.live s stands), stands)

pub returns-in-Ok-clause-step : goal.returns-in-Ok-clause-step
returns-in-Ok-clause-step c = λ s stands. (
  s,
  subst (λ (x : Value). Step s (Retrieve c.args.key.now) (Found x) s) (sym c.in-Ok.ensures.same)
      (retrieve_step s c.args.key.now (Some c.in-Some.value.now) (c.in-Some.ensures.live s stands)),
  stands,
)

pub returns-in-Err-clause-step : goal.returns-in-Err-clause-step
returns-in-Err-clause-step c = λ s stands. (s, inl (inr (record { reply_is = refl; state_is = refl })), stands)

pub returns-in-Err-clause-in_place : goal.returns-in-Err-clause-in_place
returns-in-Err-clause-in_place c = λ p e.
    let no : false ≡ true = c.in-Err.ensures.in_place (kind_in_place c.args.key.now.kind c.in-Some.value.now c.in-Some.ensures.kind p) in
    absurd (cc)

pub returns-in-Err-clause-last : goal.returns-in-Err-clause-last
returns-in-Err-clause-last c = λ s stands.
    let live : Some c.in-Some.value.now ≡ live_at s c.args.key.now = c.in-Some.ensures.live s stands in
    (c.in-Some.value.now, sym live, c.in-Err.ensures.room)
