use Rattle.std.proofs.Common.{◌≡◌, ◌<◌, slice_index_or, None, length, sym, ap, ◌∙◌, subst}
use Rattle.std.proofs.lemmas.List.{get_or_default}
use Rattle.ds_held.specs.Rows.{in_slot}
use Rattle.ds_held.proofs.RowLemmas.{found_listed}
use Rattle.ds_held.proofs.rows.Rows.in_slot.Goals as goal

pub returns-in-Some : goal.returns-in-Some
returns-in-Some g c =
    let within : c.from.result < length c.self.inside.slots.items =
    subst (λ l. c.from.result < length l) c.deref.ensures.value c.in-Some.ensures.lookup.3.0 in
    let read : c.in-Some.element.now ≡ in_slot c.self.inside.slots.items c.from.result =
    c.in-Some.ensures.lookup.1 ∙ ap (λ l. slice_index_or l c.from.result c.in-Some.element.now) c.deref.ensures.value
    ∙ sym (get_or_default c.self.inside.slots.items c.from.result None c.in-Some.element.now within) in
    found_listed c.self.inside.order.items c.self.inside.slots.items c.args.self.now c.self.invariant.filled c.self.invariant.listed
    c.self.view_is c.from.result c.as_ref.result (c.as_ref.ensures.value ∙ read)
