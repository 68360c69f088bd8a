use Rattle.std.proofs.Common.{◌≡◌, [], ◌∷◌, map, None, Some, Result, Ok, Err, ◌⊎◌, ap, sym, ◌∙◌, subst, refl, inl}
use Rattle.ds_entry.specs.Change.{BodyCopyTakesMemory}
use Rattle.ds_watch.specs.Mask.{either, padded}
use Rattle.ds_entry.specs.declared.item.Item.TheVariants.{Change as Changed}
use Rattle.ds_join.specs.declared.merge.Merge.{Merge}
use Rattle.ds_join.specs.declared.merge.Merge.TheVariants.{Taken}
use Rattle.ds_machine.specs.Subscription.{is_owed}
use Rattle.ds_machine.specs.Standing.{against_change, standing_of}
use Rattle.ds_machine.specs.declared.refusal.Cause.{Cause}
use Rattle.ds_machine.specs.Parts.{held_at}
use Rattle.ds_machine.specs.State.{takes_effect}
use Rattle.ds_machine.specs.declared.refusal.Refusal.{Refusal}
use Rattle.ds_machine.specs.declared.refusal.Refusal.TheVariants.{NoRoom}
use Rattle.ds_store.proofs.RoomLemmas.{no_cause}
use Rattle.ds_content.specs.Content.{ContentRecord}
use Rattle.ds_content.specs.Owed.{owed_flags}
use Rattle.ds_content.specs.Stands.{ContentStands}
use Rattle.ds_store.specs.Merging.{MergesItem, owed_after}
use Rattle.ds_store.proofs.MergeLemmas.{passed_merges, passed_owed, change_lacks}
use Rattle.ds_store.proofs.AnswerLemmas.{passed_no_room}
use Rattle.ds_store.proofs.store.Store.merge_change.Goals as goal
use Rattle.ds_store.proofs.store.Store.merge_change.Goals.{in-Ok-accept_at, in-Err}

pub returns-in-Some-clause-owed : goal.returns-in-Some-clause-owed
returns-in-Some-clause-owed c = λ s stands.
    let total = c.args.total.now in
    let more = owed_flags s (Changed c.args.change.now) in
    subst (λ (r : Result Merge Refusal). total ≡ owed_after r total more) (sym c.passed_as.ensures.value)
    (passed_owed c.in-Some.cause total more)

pub returns-in-Some-clause-step : goal.returns-in-Some-clause-step
returns-in-Some-clause-step c = λ s stands.
    let item = Changed c.args.change.now in
    let cause = sym (c.cause_of_change.ensures.first s stands) ∙ c.in-Some.is in (
      s,
      subst (λ (r : Result Merge Refusal). MergesItem s item r s) (sym c.passed_as.ensures.value)
          (passed_merges s item c.in-Some.cause cause),
      stands,
    )

pub returns-in-Some-clause-last : goal.returns-in-Some-clause-last
returns-in-Some-clause-last c = λ e s stands.
    let change = c.args.change.now in
    let room = passed_no_room c.in-Some.cause (sym c.passed_as.ensures.value ∙ e) in
    absurd (no_cause (Some change.version) (against_change (standing_of s change) change)
    (sym (c.cause_of_change.ensures.first s stands) ∙ c.in-Some.is ∙ ap (λ (x : Cause). Some x) room))

-- out of memory for matching the patterns
pub returns-in_default-owed_at-clause-last : goal.returns-in_default-owed_at-clause-last
returns-in_default-owed_at-clause-last c = λ e s stands.
    let v = c.self.inside.content.value in
    let change = c.args.change.now in
    let here : ContentStands v s = subst (λ (x : ContentRecord). ContentStands x s) (sym c.self.view_is) stands in
    let none = ap (held_at v.held) (sym c.key-2.ensures.value) ∙
    sym (ap (λ (x : ContentRecord). held_at x.held c.key-2.result.now) c.deref-2.ensures) ∙ c.in_default-owed_at.ensures.held in
    change_lacks v s change here (sym (c.cause_of_change.ensures.first s stands) ∙ c.in_default.is) (inl none)

pub returns-clause-owed : goal.returns-clause-owed
returns-clause-owed c = λ s stands.
    let here : ContentStands c.self.inside.content.value s = subst (λ (x : ContentRecord). ContentStands x s) (sym c.self.view_is) stands in
    elim c.match-accept_at.branch [
      | in-Ok-accept_at w ↦
          w.total-is ∙ w.add.ensures ∙ ap (either c.args.total.now)
          (c.in-Ok.ensures.owed s c.args.change.now (subst (λ (x : ContentRecord). ContentStands x s) (sym c.deref-2.ensures) here)
          (sym c.key-2.ensures.value))
          ∙ sym (ap (λ r. owed_after r c.args.total.now (padded (map (is_owed (Changed c.args.change.now ∷ [])) s.subscriptions)))
          w.result-is)
      | in-Err w ↦ w.total-is ∙ sym (ap (λ r. owed_after r c.args.total.now
          (padded (map (is_owed (Changed c.args.change.now ∷ [])) s.subscriptions))) w.result-is)
    ]

pub returns-clause-step : goal.returns-clause-step
returns-clause-step c = λ s stands.
    let item = Changed c.args.change.now in
    let here : ContentStands c.self.inside.content.value s = subst (λ (x : ContentRecord). ContentStands x s) (sym c.self.view_is) stands in
    let before : ContentStands c.deref_mut.result.now s =
    subst (λ (x : ContentRecord). ContentStands x s) (sym c.deref_mut.ensures.value) here in
    elim c.match-accept_at.branch [
      | in-Ok-accept_at w ↦ (
        takes_effect s (item ∷ []),
        subst (λ (r : Result Merge Refusal). MergesItem s item r (takes_effect s (item ∷ []))) (sym w.result-is)
            (sym (c.cause_of_change.ensures.first s stands) ∙ c.in_default.is, refl),
        w.in-Ok-accept_at.ensures.ok s before,
      )
      | in-Err w ↦ (
        s,
        subst (λ (r : Result Merge Refusal). MergesItem s item r s) (sym w.result-is) (refl, inl refl),
        subst
            (λ (x : ContentRecord). ContentStands x s) (sym w.in-Err.ensures.err) before,
      )
    ]

pub returns-clause-last : goal.returns-clause-last
returns-clause-last c = λ e s stands.
    let v = c.self.inside.content.value in
    let change = c.args.change.now in
    let here : ContentStands v s = subst (λ (x : ContentRecord). ContentStands x s) (sym c.self.view_is) stands in
    elim c.match-accept_at.branch [
      | in-Ok-accept_at w ↦ absurd (let no : Ok Taken ≡ Err NoRoom = sym w.result-is ∙ e in cc)
      | in-Err w ↦ change_lacks v s change here (sym (c.cause_of_change.ensures.first s stands) ∙ c.in_default.is)
          (subst (λ (x : ContentRecord). (held_at x.held change.key ≡ None) ⊎ BodyCopyTakesMemory change.body) c.deref_mut.ensures.value
          w.in-Err.ensures.wants)
    ]
