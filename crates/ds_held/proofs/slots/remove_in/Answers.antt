use Rattle.std.proofs.Common.{◌≡◌, ◌<◌, Some, None, length, set, refl, sym, ap, ◌∙◌, subst, arith}
use Rattle.std.proofs.lemmas.Option.{slice_get_read}
use Rattle.std.specs.List.{slice_get, remove}
use Rattle.std.specs.Prelude.{vec_capacity, ◌++◌, ◌∷◌, []}
use Rattle.ds_held.specs.Rows.{rows_of}
use Rattle.ds_held.proofs.RowLemmas.{slot_within, list_removed, rows_removed, has_room, rows_same}
use Rattle.ds_held.proofs.slots.remove_in.Goals as goal

pub index_mut-requires : goal.index_mut-requires
index_mut-requires g c =
    let order = c.args.order.now.items in
    let there : slice_get order c.args.index ≡ Some c.remove-slot.result =
    slice_get_read order (length order) c.args.index c.remove-slot.result refl c.requires.within c.remove-slot.ensures.value in
    subst (λ n. c.from.result < n) (sym c.args.slots.now.ok.0)
    (subst (λ n. n < length c.args.slots.now.items) (sym c.from.ensures)
    (slot_within order c.args.slots.now.items c.args.index c.remove-slot.result c.requires.rows.filled there))

pub push_number-requires : goal.push_number-requires
push_number-requires g c =
    let order = c.args.order.now.items in
    let room = vec_capacity c.args.spare.now in
    let there : slice_get order c.args.index ≡ Some c.remove-slot.result =
    slice_get_read order (length order) c.args.index c.remove-slot.result refl c.requires.within c.remove-slot.ensures.value in
    subst (λ n. n < room) (sym c.args.spare.now.ok.0)
    (has_room order c.args.spare.now.items c.args.slots.now.items room c.requires.rows c.args.index c.remove-slot.result there room
    (omega arith))

pub returns-clause-rows : goal.returns-clause-rows
returns-clause-rows g c =
    let order = c.args.order.now.items in
    let spare = c.args.spare.now.items in
    let slots = c.args.slots.now.items in
    let room = vec_capacity c.args.spare.now in
    let slot = c.remove-slot.result in
    let there : slice_get order c.args.index ≡ Some slot =
    slice_get_read order (length order) c.args.index slot refl c.requires.within c.remove-slot.ensures.value in
    rows_same (remove order c.args.index) (spare ++ slot ∷ []) (set slots slot None) room
    (rows_removed order spare slots room c.requires.rows c.args.index slot there)
    c.remove-slot.new.self.items c.push_number.new.numbers.items (set slots c.from.result None) (vec_capacity c.push_number.new.numbers)
    c.remove-slot.ensures.items c.push_number.ensures.items (ap (λ s. set slots s None) c.from.ensures) c.push_number.ensures.capacity

pub returns-clause-removed : goal.returns-clause-removed
returns-clause-removed g c =
    let order = c.args.order.now.items in
    let slots = c.args.slots.now.items in
    let slot = c.remove-slot.result in
    let there : slice_get order c.args.index ≡ Some slot =
    slice_get_read order (length order) c.args.index slot refl c.requires.within c.remove-slot.ensures.value in
    ap (λ l. rows_of l (set slots c.from.result None)) c.remove-slot.ensures.items ∙
    ap (λ s. rows_of (remove order c.args.index) (set slots s None)) c.from.ensures
    ∙ list_removed order c.args.spare.now.items slots (vec_capacity c.args.spare.now) c.requires.rows c.args.index slot there
