use Rattle.std.proofs.Common.{◌≡◌, [], ◌∷◌, length, refl, ap, sym, ◌∙◌, subst, inl, inr}
use Rattle.ds_entry.specs.declared.item.Item.TheVariants.{Floor as Floored}
use Rattle.ds_machine.specs.State.{takes_effect, owed}
use Rattle.ds_held.specs.Kept.{puts_void_by}
use Rattle.ds_machine.specs.Parts.{changes_in}
use Rattle.ds_machine.specs.Machine.{Answers, IsOutcome, sweeping}
use Rattle.ds_machine.specs.declared.command.Command.TheVariants.{Sweep}
use Rattle.ds_machine.specs.declared.reply.Reply.{Reply}
use Rattle.ds_content.specs.Content.{ContentRecord}
use Rattle.ds_content.specs.Stands.{ContentStands}
use Rattle.ds_store.proofs.AnswerLemmas.{last_of, sweep_refused, sweep_taken, owed_number}
use Rattle.ds_store.proofs.store.Store.sweep.Goals as goal
use Rattle.ds_store.proofs.store.Store.sweep.Goals.{in-Ok, in-Err}

pub returns-in-Some-clause-step : goal.returns-in-Some-clause-step
returns-in-Some-clause-step c = λ s stands.
    let f = c.args.floor in
    let cause = sym (c.cause_of_sweep.ensures.first s stands) ∙ c.in-Some.is in (
      s,
      inl (subst (λ (r : Reply). IsOutcome (sweeping s c.args.caller f) r s) (sym c.sweep_answer.ensures)
          (sweep_refused s c.args.caller f c.in-Some.cause cause)),
      stands,
    )

pub returns-in-Some-clause-last : goal.returns-in-Some-clause-last
returns-in-Some-clause-last c = λ s stands.
    let f = c.args.floor in
    let cause = sym (c.cause_of_sweep.ensures.first s stands) ∙ c.in-Some.is in
    last_of s (Sweep c.args.caller f.owner f.generation) c.sweep_answer.result s
    (subst (λ (r : Reply). IsOutcome (sweeping s c.args.caller f) r s) (sym c.sweep_answer.ensures)
    (sweep_refused s c.args.caller f c.in-Some.cause cause))

pub returns-clause-step : goal.returns-clause-step
returns-clause-step c = λ s stands.
    let v = c.self.inside.content.value in
    let f = c.args.floor in
    let here : ContentStands v s = subst (λ (x : ContentRecord). ContentStands x s) (sym c.self.view_is) stands in
    let none = sym (c.cause_of_sweep.ensures.first s stands) ∙ c.in_default.is in
    elim c.match-raise_at.branch [
      | in-Ok w ↦
          (let bits : w.number.result ≡ owed s (Floored f ∷ []) =
          owed_number s (Floored f) c.owed_by_floor-owed.result w.number.result w.number.ensures
          (c.owed_by_floor-owed.ensures.owed s f (subst (λ (x : ContentRecord). ContentStands x s) (sym c.deref-2.ensures) here)) in (
            takes_effect s (Floored f ∷ []),
            subst (λ (r : Reply). Answers s (sweeping s c.args.caller f) r (takes_effect s (Floored f ∷ []))) (sym w.result-is)
                (inl (sweep_taken v s c.args.caller f w.in-Ok.count w.number.result here none
                (w.in-Ok.ensures.count ∙ ap (λ (x : ContentRecord). length (puts_void_by f (changes_in x.held))) c.deref_mut.ensures.value)
                bits)),
            w.in-Ok.ensures.ok s (subst (λ (x : ContentRecord). ContentStands x s) (sym c.deref_mut.ensures.value) here),
          ))
      | in-Err w ↦ (
        s,
        inr (record { reply_is = w.result-is; state_is = refl }),
        subst (λ (x : ContentRecord). ContentStands x s) (sym w.in-Err.ensures.err)
            (subst (λ (x : ContentRecord). ContentStands x s) (sym c.deref_mut.ensures.value) here),
      )
    ]
