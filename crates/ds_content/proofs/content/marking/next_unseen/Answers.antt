use Rattle.std.proofs.Common.{◌<◌, ◌≤◌, length, refl, subst, arith}
use Rattle.std.proofs.lemmas.Option.{slice_get_within}
use Rattle.ds_held.specs.Held.{Holding, held_count, held_items, floor_count}
use Rattle.ds_held.proofs.HeldLemmas.{count_is}
use Rattle.ds_content.proofs.NextLemmas.{next_floor, next_change, no_change, items_counted}
use Rattle.ds_content.proofs.content.marking.next_unseen.Goals as goal

pub returns-in-Some : goal.returns-in-Some
returns-in-Some c = next_floor c.args.held.now c.args.sub c.floor_marks-floors.result.now c.floor_marks-floors.ensures c.args.from
    c.in-Some.index c.in-Some.ensures

pub returns-in_err-index : goal.returns-in_err-index
returns-in_err-index c =
    rw c.from_residual.ensures
    (no_change c.args.held.now c.args.sub c.floor_marks-floors.result.now c.floor_marks-floors.ensures c.marks.result.now c.marks.ensures
    c.args.from c.saturating_sub.result
    c.in_default.ensures c.saturating_sub.ensures c.in_err-index.ensures)

pub overflow_add-result : goal.overflow_add-result
overflow_add-result c =
    let next = c.in_ok-index.ensures in
    let within : c.in_ok-index.index < length c.marks.result.now =
    slice_get_within c.marks.result.now c.in_ok-index.index next.there.1.0 next.there.1.1 in
    let h = c.args.held.now.held in
    let few = subst (λ (x : Holding). length (held_items x) ≤ 4160) c.held.ensures.value c.few_items_proof.ensures in
    let all = items_counted h (held_count h) (floor_count h) refl refl in
    let changes = count_is h in
    omega (arith, within, few, all, changes, c.marks.ensures.each, c.floor_marks-floors.type_inv)

pub returns : goal.returns
returns c =
    next_change c.args.held.now c.args.sub c.floor_marks-floors.result.now c.floor_marks-floors.ensures c.marks.result.now c.marks.ensures
    c.args.from c.saturating_sub.result c.in_default.ensures c.saturating_sub.ensures c.in_ok-index.index
    _ c.in_ok-index.ensures refl
