use Rattle.std.proofs.Common.{◌≡◌, [], ◌∷◌, None, Some, ◌⊎◌, ap, sym, ◌∙◌, subst, refl, inl, inr}
use Rattle.ds_entry.specs.Change.{ChangeRecord, BodyCopyTakesMemory}
use Rattle.ds_entry.specs.declared.item.Item.TheVariants.{Change as Changed}
use Rattle.ds_machine.specs.State.{takes_effect, owed}
use Rattle.ds_machine.specs.Asking.{against_asked, change_asked, name_of, asked_in}
use Rattle.ds_machine.specs.Standing.{standing_of}
use Rattle.ds_machine.specs.State as states
use Rattle.ds_machine.specs.declared.refusal.Cause.{Cause}
use Rattle.ds_machine.specs.Machine.{IsOutcome, asking}
use Rattle.ds_machine.specs.Parts.{held_at}
use Rattle.ds_machine.specs.declared.reply.Reply.{Reply}
use Rattle.ds_store.specs.Asked.{request_of}
use Rattle.ds_store.proofs.RoomLemmas.{no_cause}
use Rattle.ds_content.specs.Content.{ContentRecord}
use Rattle.ds_content.specs.Stands.{ContentStands}
use Rattle.ds_store.proofs.AnswerLemmas.{answered_no_room, asked_refused, asked_taken, asked_lacks, owed_number}
use Rattle.ds_store.proofs.store.Store.ask.Goals as goal

pub returns-in-Some-clause-step : goal.returns-in-Some-clause-step
returns-in-Some-clause-step c = λ s stands.
    let a = request_of c.args.asked.now in
    let cause = sym (c.cause_against.ensures.first s stands) ∙ c.in-Some.is in (
      s,
      inl (subst (λ (r : Reply). IsOutcome (asking s a c.args.body) r s) (sym c.answer_to.ensures)
          (asked_refused s a c.args.body c.in-Some.cause cause)),
      stands,
    )

pub returns-in-Some-clause-last : goal.returns-in-Some-clause-last
returns-in-Some-clause-last c = λ e s stands.
    let a = request_of c.args.asked.now in
    let room = answered_no_room c.in-Some.cause (sym c.answer_to.ensures ∙ e) in
    absurd (no_cause (Some a.version) (against_asked (standing_of s (asked_in s a c.args.body)) (name_of (states.held s) a.caller) a
    c.args.body)
    (sym (c.cause_against.ensures.first s stands) ∙ c.in-Some.is ∙ ap (λ (x : Cause). Some x) room))

pub returns-in-Ok-accept_at-clause-step : goal.returns-in-Ok-accept_at-clause-step
returns-in-Ok-accept_at-clause-step c = λ s stands.
    let v = c.self.inside.content.value in
    let a = request_of c.args.asked.now in
    let here : ContentStands v s = subst (λ (x : ContentRecord). ContentStands x s) (sym c.self.view_is) stands in
    let change = c.change_asked-change.result in
    let none = sym (c.cause_against.ensures.first s stands) ∙ c.in_default.is in
    let bits : c.number.result ≡ owed s (Changed change ∷ []) = owed_number s (Changed change) c.in-Ok.owed c.number.result c.number.ensures
    (c.in-Ok.ensures.owed s change (subst (λ (x : ContentRecord). ContentStands x s) (sym c.deref-3.ensures) here)
    (ap (λ x. x.key) c.change_asked-change.ensures)) in (
      takes_effect s (Changed change ∷ []),
      asked_taken v s a c.args.body change c.number.result here none
          (c.change_asked-change.ensures ∙ ap (λ m. change_asked m a c.args.body)
          (c.name_of-caller.ensures ∙ ap (λ (x : ContentRecord). name_of x.held a.caller) c.deref-2.ensures)) bits,
      c.in-Ok-accept_at.ensures.ok s (subst (λ (x : ContentRecord). ContentStands x s) (sym c.deref_mut.ensures.value) here),
    )

-- out of memory for matching the patterns
pub returns-in_default-owed_at-clause-last : goal.returns-in_default-owed_at-clause-last
returns-in_default-owed_at-clause-last c = λ e s stands.
    let v = c.self.inside.content.value in
    let a = request_of c.args.asked.now in
    let here : ContentStands v s = subst (λ (x : ContentRecord). ContentStands x s) (sym c.self.view_is) stands in
    asked_lacks v s a c.args.body here (sym (c.cause_against.ensures.first s stands) ∙ c.in_default.is)
    (inl (sym (ap (λ (x : ContentRecord). held_at x.held a.key) c.deref-3.ensures) ∙ c.in_default-owed_at.ensures.held))

-- out of memory for the change
pub returns-clause-step : goal.returns-clause-step
returns-clause-step c = λ s stands.
    let here : ContentStands c.self.inside.content.value s =
    subst (λ (x : ContentRecord). ContentStands x s) (sym c.self.view_is) stands in (
      s,
      inr (record { reply_is = refl; state_is = refl }),
      subst (λ (x : ContentRecord). ContentStands x s) (sym c.in-Err.ensures.err)
          (subst (λ (x : ContentRecord). ContentStands x s) (sym c.deref_mut.ensures.value) here),
    )

pub returns-clause-last : goal.returns-clause-last
returns-clause-last c = λ e s stands.
    let v = c.self.inside.content.value in
    let a = request_of c.args.asked.now in
    let change = c.change_asked-change.result in
    let here : ContentStands v s = subst (λ (x : ContentRecord). ContentStands x s) (sym c.self.view_is) stands in
    asked_lacks v s a c.args.body here (sym (c.cause_against.ensures.first s stands) ∙ c.in_default.is)
    (subst (λ (x : ChangeRecord). (held_at v.held x.key ≡ None) ⊎ BodyCopyTakesMemory x.body) c.change_asked-change.ensures
    (subst (λ (x : ContentRecord). (held_at x.held change.key ≡ None) ⊎ BodyCopyTakesMemory change.body) c.deref_mut.ensures.value
    c.in-Err.ensures.wants))
