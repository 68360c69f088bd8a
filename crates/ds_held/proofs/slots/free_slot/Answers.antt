use Rattle.std.proofs.Common.{◌≡◌, [], sym, ◌∙◌, subst, arith}
use Rattle.std.specs.Prelude.{vec_capacity}
use Rattle.std.proofs.lemmas.List.{nil_from_length}
use Rattle.ds_held.specs.Rows.{AreInSlots}
use Rattle.ds_held.proofs.RowLemmas.{free_last, fresh, fresh_list}
use Rattle.ds_held.proofs.slots.free_slot.Goals as goal

pub returns-in-Some-clause-free : goal.returns-in-Some-clause-free
returns-in-Some-clause-free g c =
    free_last c.args.order.now c.pop.new.self.items c.in-Some.slot c.args.slots.now.items (vec_capacity c.args.spare.now)
    (subst (λ l. AreInSlots c.args.order.now l c.args.slots.now.items (vec_capacity c.args.spare.now)) c.in-Some.ensures.items
    c.requires.rows)
    (vec_capacity c.pop.new.self) (omega (arith, c.pop.ensures.capacity))

pub returns-in-None-clause-free : goal.returns-in-None-clause-free
returns-in-None-clause-free g c =
    let none : c.pop.new.self.items ≡ [] = nil_from_length c.pop.new.self.items (sym c.pop.new.self.ok.0 ∙ c.in-None.ensures.cases.1) in
    let old : c.args.spare.now.items ≡ [] = nil_from_length c.args.spare.now.items
    (sym c.args.spare.now.ok.0 ∙ c.in-None.ensures.cases.0) in
    fresh c.args.order.now c.args.slots.now.items (vec_capacity c.args.spare.now)
    (subst (λ l. AreInSlots c.args.order.now l c.args.slots.now.items (vec_capacity c.args.spare.now)) old c.requires.rows)
    c.new_slot.result c.new_slot.new.spare.items c.new_slot.new.slots.items (vec_capacity c.new_slot.new.spare)
    (c.new_slot.ensures.spare ∙ none) c.new_slot.ensures.slots c.new_slot.ensures.number c.new_slot.ensures.room

pub returns-in-None-clause-list : goal.returns-in-None-clause-list
returns-in-None-clause-list g c = fresh_list c.args.order.now c.args.slots.now.items c.new_slot.result c.new_slot.new.slots.items
    c.new_slot.ensures.slots c.new_slot.ensures.same
