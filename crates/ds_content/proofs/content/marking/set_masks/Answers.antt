use Rattle.std.proofs.Common.{◌≡◌, ◌<◌, length, ap, ◌∙◌, arith}
use Rattle.ds_held.specs.Held.{held_floors, floor_count}
use Rattle.ds_content.proofs.HoldingLemmas.{count_floors}
use Rattle.ds_content.proofs.RemarkLemmas.{set_floor, set_change}
use Rattle.ds_content.proofs.content.marking.set_masks.Goals as goal

pub returns-then-index-floors : goal.returns-then-index-floors
returns-then-index-floors c =
    let n = count_floors c.args.held.now.held in
    let each : length c.floor_marks-floors.result.now ≡ length (held_floors c.args.held.now.held) =
    c.floor_marks-floors.ensures.each ∙ ap (λ h. length (held_floors h.held)) c.marked.ensures in
    let low : c.args.index < floor_count c.args.held.now.held = omega (arith, n, each, c.if-index-floors.true) in
    set_floor c.args.held.now c.set_floor_mark.new.self c.held-held.ensures.sound c.args.index c.args.masks c.set_floor_mark.ensures.held
    low c.set_floor_mark.ensures.marks c.set_floor_mark.ensures.floor_marks

pub returns-else-index-floors : goal.returns-else-index-floors
returns-else-index-floors c =
    let n = count_floors c.args.held.now.held in
    let each : length c.floor_marks-floors.result.now ≡ length (held_floors c.args.held.now.held) =
    c.floor_marks-floors.ensures.each ∙ ap (λ h. length (held_floors h.held)) c.marked.ensures in
    set_change c.args.held.now c.set_mark.new.self c.held-held.ensures.sound c.args.index c.args.masks c.set_mark.ensures.held _
    (omega (arith, n, each, c.if-index-floors.false)) c.set_mark.ensures.floor_marks c.set_mark.ensures.marks
