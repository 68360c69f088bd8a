use Rattle.std.proofs.Common.{◌≡◌, Some, set, sym, ap, ◌∙◌, subst}
use Rattle.std.specs.List.{insert}
use Rattle.std.specs.Prelude.{vec_capacity}
use Rattle.ds_held.specs.Rows.{rows_of, AreInSlots, IsFreeSlot}
use Rattle.ds_held.proofs.RowLemmas.{list_inserted, rows_inserted}
use Rattle.ds_held.proofs.slots.insert_in.Goals as goal

pub returns-clause-rows : goal.returns-clause-rows
returns-clause-rows g c =
    let old = c.args.order.now.items in
    let spare = c.free_slot.new.spare.items in
    let slots = c.free_slot.new.slots.items in
    let room = vec_capacity c.free_slot.new.spare in
    let slot = c.in_ok-slot.slot in
    let free : IsFreeSlot old slot spare slots room =
    subst (λ l. IsFreeSlot l slot spare slots room) (c.deref.ensures.value ∙ c.reserve.ensures.items) c.in_ok-slot.ensures.free in
    subst (λ l. AreInSlots l spare (set slots c.from.result (Some c.args.element)) room)
    (sym (c.insert_number.ensures ∙ ap (λ l. insert l c.args.index slot) c.reserve.ensures.items))
    (subst (λ s. AreInSlots (insert old c.args.index slot) spare (set slots s (Some c.args.element)) room) (sym c.from.ensures)
    (rows_inserted old slot spare slots room free c.args.index c.args.element c.requires.within))

pub returns-clause-row : goal.returns-clause-row
returns-clause-row g c =
    let old = c.args.order.now.items in
    let spare = c.free_slot.new.spare.items in
    let slots = c.free_slot.new.slots.items in
    let room = vec_capacity c.free_slot.new.spare in
    let slot = c.in_ok-slot.slot in
    let same : c.deref.result.now ≡ old = c.deref.ensures.value ∙ c.reserve.ensures.items in
    let free : IsFreeSlot old slot spare slots room = subst (λ l. IsFreeSlot l slot spare slots room) same c.in_ok-slot.ensures.free in
    ap (λ l. rows_of l (set slots c.from.result (Some c.args.element)))
    (c.insert_number.ensures ∙ ap (λ l. insert l c.args.index slot) c.reserve.ensures.items)
    ∙ ap (λ s. rows_of (insert old c.args.index slot) (set slots s (Some c.args.element))) c.from.ensures
    ∙ list_inserted old slot spare slots room free c.args.index c.args.element
    ∙ ap (λ l. insert l c.args.index c.args.element)
    (subst (λ l. rows_of l slots ≡ rows_of l c.args.slots.now.items) same c.free_slot.ensures.list)
