use Rattle.std.proofs.Common.{◌≡◌, List, [], ◌∷◌, Result, Ok, Err, ap, sym, ◌∙◌, subst, refl, inl}
use Rattle.ds_watch.specs.Mask.{either}
use Rattle.ds_entry.specs.declared.item.Item.{Item}
use Rattle.ds_entry.specs.declared.item.Item.TheVariants.{Floor as Floored}
use Rattle.ds_join.specs.declared.merge.Merge.{Merge}
use Rattle.ds_join.specs.declared.merge.Merge.TheVariants.{Taken}
use Rattle.ds_machine.specs.Parts.{floor_at}
use Rattle.ds_machine.specs.State.{takes_effect}
use Rattle.ds_machine.specs.declared.refusal.Refusal.{Refusal}
use Rattle.ds_machine.specs.declared.refusal.Refusal.TheVariants.{NoRoom}
use Rattle.ds_content.specs.Content.{ContentRecord}
use Rattle.ds_content.specs.Owed.{owed_flags}
use Rattle.ds_content.specs.Stands.{ContentStands}
use Rattle.ds_store.specs.Merging.{MergesItem, owed_after}
use Rattle.ds_store.proofs.MergeLemmas.{passed_merges, passed_owed}
use Rattle.ds_store.proofs.store.Store.merge_floor.Goals as goal
use Rattle.ds_store.proofs.store.Store.merge_floor.Goals.{in-Ok, in-Err}

pub returns-in-Some-clause-owed : goal.returns-in-Some-clause-owed
returns-in-Some-clause-owed c = λ s stands.
    let total = c.args.total.now in
    let more = owed_flags s (Floored c.args.floor) in
    subst (λ (r : Result Merge Refusal). total ≡ owed_after r total more) (sym c.passed_as.ensures.value)
    (passed_owed c.in-Some.cause total more)

pub returns-in-Some-clause-step : goal.returns-in-Some-clause-step
returns-in-Some-clause-step c = λ s stands.
    let item = Floored c.args.floor in
    let cause = sym (c.cause_of_floor.ensures.first s stands) ∙ c.in-Some.is in (
      s,
      subst (λ (r : Result Merge Refusal). MergesItem s item r s) (sym c.passed_as.ensures.value)
          (passed_merges s item c.in-Some.cause cause),
      stands,
    )

pub returns-clause-owed : goal.returns-clause-owed
returns-clause-owed c = λ s stands.
    let here : ContentStands c.self.inside.content.value s = subst (λ (x : ContentRecord). ContentStands x s) (sym c.self.view_is) stands in
    let owes = c.owed_by_floor-owed.ensures.owed s c.args.floor
    (subst (λ (x : ContentRecord). ContentStands x s) (sym c.deref-2.ensures) here) in
    let same = λ (r : Result Merge Refusal). owed_after r c.args.total.now (owed_flags s (Floored c.args.floor)) in
    elim c.match-raise_at.branch [
      | in-Ok w ↦ w.total-is ∙ w.add.ensures ∙ ap (either c.args.total.now) owes ∙ sym (ap same w.result-is)
      | in-Err w ↦ w.total-is ∙ sym (ap same w.result-is)
    ]

pub returns-clause-step : goal.returns-clause-step
returns-clause-step c = λ s stands.
    let item = Floored c.args.floor in
    let here : ContentStands c.self.inside.content.value s = subst (λ (x : ContentRecord). ContentStands x s) (sym c.self.view_is) stands in
    let before : ContentStands c.deref_mut.result.now s =
    subst (λ (x : ContentRecord). ContentStands x s) (sym c.deref_mut.ensures.value) here in
    elim c.match-raise_at.branch [
      | in-Ok w ↦ (
        takes_effect s (item ∷ []),
        subst (λ (r : Result Merge Refusal). MergesItem s item r (takes_effect s (item ∷ []))) (sym w.result-is)
            (sym (c.cause_of_floor.ensures.first s stands) ∙ c.in_default.is, refl),
        w.in-Ok.ensures.ok s before,
      )
      | in-Err w ↦ (
        s,
        subst (λ (r : Result Merge Refusal). MergesItem s item r s) (sym w.result-is) (refl, inl refl),
        subst
            (λ (x : ContentRecord). ContentStands x s) (sym w.in-Err.ensures.err) before,
      )
    ]

pub returns-clause-last : goal.returns-clause-last
returns-clause-last c = λ e s stands.
    let owner = c.args.floor.owner in
    let here : ContentStands c.self.inside.content.value s = subst (λ (x : ContentRecord). ContentStands x s) (sym c.self.view_is) stands in
    elim c.match-raise_at.branch [
      | in-Ok w ↦ absurd (let no : Ok Taken ≡ Err NoRoom = sym w.result-is ∙ e in cc)
      | in-Err w ↦ (
        sym (c.cause_of_floor.ensures.first s stands) ∙ c.in_default.is,
        sym (ap (λ (x : ContentRecord). floor_at x.held owner) c.deref_mut.ensures.value ∙
            ap (λ (hs : List Item). floor_at hs owner) here.held) ∙ w.in-Err.ensures.new_owner,
      )
    ]
