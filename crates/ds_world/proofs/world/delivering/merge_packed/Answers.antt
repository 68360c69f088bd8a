use Rattle.std.proofs.Common.{◌≡◌, ◌<◌, ◌^◌, ◌++◌, List, ap, sym, ◌∙◌, subst}
use Rattle.ds_entry.specs.declared.item.Item.{Item}
use Rattle.ds_replica.specs.Delivery.{Tally}
use Rattle.ds_world.specs.Tally.{tally_of}
use Rattle.ds_world.proofs.MergeLemmas.{can_join, delivering_begins, delivering_ends, delivering_goes_on, not_stopped, was_stopped}
use Rattle.ds_world.proofs.world.delivering.merge_packed.Goals as goal

pub loop-item-init : goal.loop-item-init
loop-item-init c = record {
  delivering = delivering_begins c.args.store.now c.args.items (tally_of c.ended-tally.result) c.ended-tally.ensures;
  goes_on = ap (λ (t : Tally). t.stop) c.ended-tally.ensures;
}

pub add-requires : goal.add-requires
add-requires c =
    let group = c.from_ref.result.now in
    let is : c.loop-item.items ≡ group ++ c.next.new.self =
    subst (λ (g : List Item). c.loop-item.items ≡ g ++ c.next.new.self) (sym c.from_ref.ensures.value) c.in-Some.ensures.some in
    can_join c.args.store.now c.loop-item.store c.merge_group.new.store c.args.items c.loop-item.items group c.next.new.self
    (tally_of c.loop-item.tally) (tally_of c.merge_group.result) (tally_of c.loop-item.tally)
    c.loop-item.invariant.delivering is c.loop-item.invariant.goes_on c.merge_group.ensures.takes c.merge_group.ensures.counted
    (subst (λ n. n < 2 ^ 64) c.len-most.ensures c.len-most.type_inv)

pub loop-item-preserved : goal.loop-item-preserved
loop-item-preserved c =
    let group = c.from_ref.result.now in
    let is : c.loop-item.items ≡ group ++ c.next.new.self =
    subst (λ (g : List Item). c.loop-item.items ≡ g ++ c.next.new.self) (sym c.from_ref.ensures.value) c.in-Some.ensures.some in
    record {
      delivering =
          delivering_goes_on c.args.store.now c.loop-item.store c.merge_group.new.store c.args.items c.loop-item.items group
          c.next.new.self (tally_of c.loop-item.tally) (tally_of c.merge_group.result) (tally_of c.add.new.self)
          c.loop-item.invariant.delivering is c.loop-item.invariant.goes_on c.merge_group.ensures.takes c.merge_group.ensures.counted
          c.add.ensures;
      goes_on = not_stopped c.add.new.self.stop (sym c.is_some.ensures ∙ c.if-is_some.false);
    }

pub returns-then-is_some : goal.returns-then-is_some
returns-then-is_some c =
    let group = c.from_ref.result.now in
    let is : c.loop-item.items ≡ group ++ c.next.new.self =
    subst (λ (g : List Item). c.loop-item.items ≡ g ++ c.next.new.self) (sym c.from_ref.ensures.value) c.in-Some.ensures.some in
    delivering_ends c.args.store.now c.merge_group.new.store c.args.items c.next.new.self (tally_of c.add.new.self)
    (delivering_goes_on c.args.store.now c.loop-item.store c.merge_group.new.store c.args.items c.loop-item.items group c.next.new.self
    (tally_of c.loop-item.tally) (tally_of c.merge_group.result) (tally_of c.add.new.self)
    c.loop-item.invariant.delivering is c.loop-item.invariant.goes_on c.merge_group.ensures.takes c.merge_group.ensures.counted
    c.add.ensures)
    (λ none. absurd (was_stopped c.add.new.self.stop (sym c.is_some.ensures ∙ c.if-is_some.true) none))

pub returns-in_default : goal.returns-in_default
returns-in_default c = delivering_ends c.args.store.now c.loop-item.store c.args.items c.loop-item.items (tally_of c.loop-item.tally)
    c.loop-item.invariant.delivering (λ none. c.in_default.ensures.none)
