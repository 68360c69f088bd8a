use Rattle.std.proofs.Common.{◌≡◌, ◌<◌, ◌≤◌, slice_index_or, Some, None, length, sym, ap, ◌∙◌, subst}
use Rattle.std.proofs.lemmas.List.{get_or_read}
use Rattle.std.specs.List.{slice_get}
use Rattle.std.specs.Option.{option_copied}
use Rattle.ds_held.proofs.RowLemmas.{found_at, row_there, no_row, slot_within}
use Rattle.ds_held.proofs.rows.Rows.get.Goals as goal

pub index-requires : goal.index-requires
index-requires g c =
    let there : slice_get c.self.inside.order.items c.args.index ≡ Some c.in-Some.slot.now =
    ap (λ l. slice_get l c.args.index) (sym c.deref.ensures.value) ∙
    sym (found_at c.deref.result.now c.args.index c.get.result c.get.ensures.lookup) ∙ ap option_copied c.in-Some.is in
    subst (λ n. c.from.result < n) (sym c.self.inside.slots.ok.0)
    (subst (λ n. n < length c.self.inside.slots.items) (sym c.from.ensures)
    (slot_within c.self.inside.order.items c.self.inside.slots.items c.args.index c.in-Some.slot.now c.self.invariant.filled there))

pub returns-in-Some : goal.returns-in-Some
returns-in-Some g c =
    let there : slice_get c.self.inside.order.items c.args.index ≡ Some c.in-Some.slot.now =
    ap (λ l. slice_get l c.args.index) (sym c.deref.ensures.value) ∙
    sym (found_at c.deref.result.now c.args.index c.get.result c.get.ensures.lookup) ∙ ap option_copied c.in-Some.is in
    let within : c.from.result < length c.self.inside.slots.items =
    subst (λ n. n < length c.self.inside.slots.items) (sym c.from.ensures)
    (slot_within c.self.inside.order.items c.self.inside.slots.items c.args.index c.in-Some.slot.now c.self.invariant.filled there) in
    c.as_ref.ensures.value ∙ get_or_read c.self.inside.slots.items c.from.result c.index.result.now within c.index.ensures None
    ∙ ap (λ s. slice_index_or c.self.inside.slots.items s None) c.from.ensures
    ∙ sym (row_there c.self.inside.order.items c.self.inside.slots.items c.args.index c.in-Some.slot.now c.self.invariant.filled there)
    ∙ ap (λ l. slice_get l c.args.index) c.self.view_is

pub returns-in-None : goal.returns-in-None
returns-in-None g c =
    sym (no_row c.self.inside.order.items c.self.inside.slots.items c.args.index c.self.invariant.filled
    (subst (λ l. length l ≤ c.args.index) c.deref.ensures.value c.in-None.ensures.lookup.3))
    ∙ ap (λ l. slice_get l c.args.index) c.self.view_is
