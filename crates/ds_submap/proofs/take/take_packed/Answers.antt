use Rattle.std.proofs.Common.{◌<◌, ◌^◌, IsTrue, subst}
use Rattle.std.proofs.lemmas.Result.{err_from_is_err_and}
use Rattle.ds_submap.proofs.TakeLemmas.{asks_each, left_begins, left_counts, left_ends, left_goes_on, left_stops, left_there, unasked_stops}
use Rattle.ds_submap.proofs.take.take_packed.Goals as goal

pub returns-in_err-asker-clause-stopped : goal.returns-in_err-asker-clause-stopped
returns-in_err-asker-clause-stopped c =
    let exit = err_from_is_err_and c.from_residual.result c.from_residual.ensures.1 in
    let refused = c.in_err-asker.ensures.refused in
    rw (exit.1, exit.2) (unasked_stops c.args.filter.now c.args.held.now c.args.items c.in_err-asker.field-0.0 refused.0 refused.1
    (subst IsTrue c.is_any_packed_asked.ensures refused.2))

pub loop-item-init : goal.loop-item-init
loop-item-init c = record {
  left = left_begins c.args.filter.now c.args.held.now c.args.items c.none-count.result c.requires c.none-count.ensures;
  asks = asks_each c.args.filter.now c.args.items c.in_ok-asker.asker c.is_any_packed_asked.result c.is_any_packed_asked.ensures
      c.in_ok-asker.ensures.asker c.in_ok-asker.ensures.query;
}

pub add-requires : goal.add-requires
add-requires c =
    left_counts c.args.filter.now c.args.held.now c.args.items c.loop-item.items c.loop-item.held c.loop-item.count
    c.loop-item.invariant.left c.in-Some.item c.next.new.self c.in-Some.ensures.some
    (subst (λ n. n < 2 ^ 64) c.len-most.ensures c.len-most.type_inv)

pub returns-in-Err-clause-stopped : goal.returns-in-Err-clause-stopped
returns-in-Err-clause-stopped c =
    let at = left_there c.args.filter.now c.args.held.now c.args.items c.loop-item.items c.loop-item.held c.loop-item.count
    c.loop-item.invariant.left c.in-Some.item c.next.new.self c.in-Some.ensures.some in
    left_stops c.args.filter.now c.args.held.now c.args.items c.loop-item.items c.loop-item.held c.loop-item.count
    c.loop-item.invariant.left c.in-Some.item c.next.new.self c.in-Some.ensures.some
    c.take_next-answer.new.held c.in-Err.fault c.stop.result c.in-Err.ensures.unchanged
    (c.in-Err.ensures.refused c.args.filter.now (c.loop-item.invariant.asks c.loop-item.count.done c.in-Some.item at)) c.stop.ensures

pub loop-item-preserved : goal.loop-item-preserved
loop-item-preserved c =
    let at = left_there c.args.filter.now c.args.held.now c.args.items c.loop-item.items c.loop-item.held c.loop-item.count
    c.loop-item.invariant.left c.in-Some.item c.next.new.self c.in-Some.ensures.some in
    record {
      left = left_goes_on c.args.filter.now c.args.held.now c.args.items c.loop-item.items c.loop-item.held c.loop-item.count
          c.loop-item.invariant.left c.in-Some.item c.next.new.self c.in-Some.ensures.some
          c.take_next-answer.new.held c.in-Ok.answer c.add.new.self
          (c.in-Ok.ensures.taken c.args.filter.now (c.loop-item.invariant.asks c.loop-item.count.done c.in-Some.item at))
          c.in-Ok.ensures.sound c.add.ensures;
      asks = rw c.in-Ok.ensures.asker c.loop-item.invariant.asks;
    }

pub returns-clause-counted : goal.returns-clause-counted
returns-clause-counted c =
    left_ends c.args.filter.now c.args.held.now c.args.items c.loop-item.items c.loop-item.held c.loop-item.count c.loop-item.invariant.left
    (c.in_default.ensures.none)
