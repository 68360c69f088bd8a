use Rattle.std.proofs.Common.{◌<◌, ◌∙◌, arith}
use Rattle.ds_held.specs.Held.{held_changes, held_floors, floor_count}
use Rattle.ds_content.proofs.HoldingLemmas.{count_floors}
use Rattle.ds_content.proofs.IndexLemmas.{floor_beside, floor_none, change_beside, change_none, none_beside}
use Rattle.ds_content.proofs.content.marking.masks_of.Goals as goal

pub returns-then-index-floors-clause-here : goal.returns-then-index-floors-clause-here
returns-then-index-floors-clause-here c =
    let n = count_floors c.args.held.now.held in
    let low : c.args.index < floor_count c.args.held.now.held =
    omega (arith, n, c.floor_marks-floors.ensures.each, c.if-index-floors.true) in
    floor_beside c.args.held.now c.args.index c.floor_masks.result low
    (λ f e. c.floor_masks.ensures ∙ c.floor_marks-floors.ensures.own c.args.index f e)

pub returns-then-index-floors-clause-none : goal.returns-then-index-floors-clause-none
returns-then-index-floors-clause-none c =
    let n = count_floors c.args.held.now.held in
    let low : c.args.index < floor_count c.args.held.now.held =
    omega (arith, n, c.floor_marks-floors.ensures.each, c.if-index-floors.true) in
    floor_none c.args.held.now c.args.index c.floor_masks.result low
    (λ e. c.floor_masks.ensures ∙ none_beside (held_floors c.args.held.now.held) c.floor_marks-floors.result.now c.args.index
    c.floor_marks-floors.ensures.each e)

pub returns-else-index-floors-clause-here : goal.returns-else-index-floors-clause-here
returns-else-index-floors-clause-here c =
    let n = count_floors c.args.held.now.held in
    change_beside c.args.held.now c.args.index c.change_masks.result _
    (omega (arith, n, c.floor_marks-floors.ensures.each, c.if-index-floors.false))
    (λ x e. c.change_masks.ensures ∙ c.marks.ensures.own _ x e)

pub returns-else-index-floors-clause-none : goal.returns-else-index-floors-clause-none
returns-else-index-floors-clause-none c =
    let n = count_floors c.args.held.now.held in
    change_none c.args.held.now c.args.index c.change_masks.result _
    (omega (arith, n, c.floor_marks-floors.ensures.each, c.if-index-floors.false))
    (λ e. c.change_masks.ensures ∙ none_beside (held_changes c.args.held.now.held) c.marks.result.now _ c.marks.ensures.each e)
