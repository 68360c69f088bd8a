use Rattle.std.proofs.Common.{◌≡◌, ℕ, ◌<◌, List, length, get_or, IsTrue, Some, ap, sym, ◌∙◌, subst, arith}
use Rattle.std.specs.List.{slice_get}
use Rattle.std.proofs.lemmas.Option.{slice_get-get_or}
use Rattle.std.proofs.lemmas.Result.{err_from_is_err_and}
use Rattle.ds_entry.specs.declared.item.Item.{Item}
use Rattle.ds_submap.proofs.TakeLemmas.{asks_each, taking_begins, taking_goes_on, taking_stops, taking_ends, unasked_stops}
use Rattle.ds_submap.proofs.take.take_items.Goals as goal

pub returns-in_err-asker-clause-stopped : goal.returns-in_err-asker-clause-stopped
returns-in_err-asker-clause-stopped c =
    let exit = err_from_is_err_and c.from_residual.result c.from_residual.ensures.1 in
    let refused = c.in_err-asker.ensures.refused in
    rw (exit.1, exit.2) (unasked_stops c.args.filter.now c.args.held.now c.args.items.now c.in_err-asker.field-0.0 refused.0 refused.1
    (subst IsTrue c.is_any_asked.ensures refused.2))

pub loop-item-init : goal.loop-item-init
loop-item-init c = record {
  taking = taking_begins c.args.filter.now c.args.held.now c.args.items.now c.none-count.result c.requires c.none-count.ensures;
  asks = asks_each c.args.filter.now c.args.items.now c.in_ok-asker.asker c.is_any_asked.result c.is_any_asked.ensures
      c.in_ok-asker.ensures.asker c.in_ok-asker.ensures.query;
}

there : (items : List Item) (i : ℕ) (x : Item) → i < length items → x ≡ get_or items i x → slice_get items i ≡ Some x
there items i x l e = slice_get-get_or items i x l ∙ ap (λ (y : Item). Some y) (sym e)

pub returns-in-Err-clause-stopped : goal.returns-in-Err-clause-stopped
returns-in-Err-clause-stopped c =
    let at = there c.args.items.now c.loop-item.item-index c.item-item.result c.loop-item-test.true c.item-item.is in
    rw c.stop.ensures
    (taking_stops c.args.filter.now c.args.held.now c.args.items.now c.loop-item.item-index c.loop-item.held c.loop-item.count
    c.item-item.result c.take_next.new.held
    c.loop-item.invariant.taking at c.in-Err.fault c.in-Err.ensures.unchanged
    (c.in-Err.ensures.refused c.args.filter.now (c.loop-item.invariant.asks c.loop-item.item-index c.item-item.result at)))

pub loop-item-preserved : goal.loop-item-preserved
loop-item-preserved c =
    let at = there c.args.items.now c.loop-item.item-index c.item-item.result c.loop-item-test.true c.item-item.is in
    record {
      taking = taking_goes_on c.args.filter.now c.args.held.now c.args.items.now c.loop-item.item-index c.loop-item.held c.loop-item.count
          c.item-item.result c.take_next.new.held
          c.loop-item.invariant.taking at c.in-Ok.answer c.add.new.self
          (c.in-Ok.ensures.taken c.args.filter.now (c.loop-item.invariant.asks c.loop-item.item-index c.item-item.result at))
          c.in-Ok.ensures.sound c.add.ensures;
      asks = rw c.in-Ok.ensures.asker c.loop-item.invariant.asks;
    }

pub returns-clause-counted : goal.returns-clause-counted
returns-clause-counted c =
    taking_ends c.args.filter.now c.args.held.now c.args.items.now c.loop-item.item-index c.loop-item.held c.loop-item.count
    c.loop-item.invariant.taking
    (omega (arith, c.loop-item-test.false))
