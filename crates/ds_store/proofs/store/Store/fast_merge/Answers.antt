use Rattle.std.proofs.Common.{◌≡◌, ◌+◌, ◌<◌, [], ◌∷◌, length, map, take, None, Err, ap, sym, ◌∙◌, subst, arith}
use Rattle.std.proofs.lemmas.Option.{slice_get_past, slice_get_within}
use Rattle.std.specs.Prelude.{slice_get}
use Rattle.ds_join.specs.declared.count.Count.{Count}
use Rattle.ds_watch.specs.Mask.{padded}
use Rattle.ds_machine.specs.State.{State}
use Rattle.ds_machine.specs.Subscription.{is_owed}
use Rattle.ds_machine.specs.Merging.{Course, course}
use Rattle.ds_content.specs.Stands.{ContentStands}
use Rattle.ds_store.proofs.MergeLemmas.{item_next, not_begun, nothing_owed, merge_stopped, merge_done, one_more, can_go_on, next_course}
use Rattle.ds_store.proofs.MergeLemmas.{next_reached, item_owed, course_places, course_number, stopped_last}
use Rattle.ds_store.proofs.store.Store.fast_merge.Goals as goal

pub loop-item-init : goal.loop-item-init
loop-item-init c = record {
  counted = sym (ap (λ (n : Count). n.done) c.none-count.ensures);
  few = omega (arith, c.in_default.ensures.few);
  can = rw c.none-count.ensures (record { taken = omega arith; stale = omega arith; done = omega arith });
  owed = λ s stands. rw c.none-count.ensures (c.none-owed.ensures ∙ nothing_owed c.args.self.now s stands);
  reached = λ s stands. rw c.none-count.ensures (not_begun s, stands);
}

pub returns-in-Err-clause-step : goal.returns-in-Err-clause-step
returns-in-Err-clause-step c = λ s stands.
    let items = c.args.items.now in
    let i = c.loop-item.count.done in
    let k = course s (take i items) in
    let at = c.loop-item.invariant.reached s stands in
    let next = c.in-Err.ensures.step k.state at.1 in
    let item = item_next items c.loop-item.item-index i c.item-item.result c.loop-item-test.true c.item-item.is
    c.loop-item.invariant.counted in
    let flags = c.in-Err.ensures.owed k.state at.1 ∙ c.loop-item.invariant.owed s stands in (
      next.0,
      merge_stopped s items c.item-item.result c.in-Err.fault next.0 c.loop-item.count c.number.result
          (course_number s k c.number.result c.merge_item.new.total c.number.ensures flags) c.loop-item.invariant.few item at.0 next.1,
      next.2,
    )

pub returns-in-Err-clause-last : goal.returns-in-Err-clause-last
returns-in-Err-clause-last c = λ s stands.
    let items = c.args.items.now in
    let i = c.loop-item.count.done in
    let k = course s (take i items) in
    let at = c.loop-item.invariant.reached s stands in
    let item = item_next items c.loop-item.item-index i c.item-item.result c.loop-item-test.true c.item-item.is
    c.loop-item.invariant.counted in
    stopped_last s items i c.item-item.result c.in-Err.fault c.number.result item
    (λ e. c.merge_item.ensures.last (c.in-Err.is ∙ ap (λ f. Err f) e) k.state at.1)

pub loop-item-preserved : goal.loop-item-preserved
loop-item-preserved c =
    let items = c.args.items.now in
    let i = c.loop-item.count.done in
    let it = c.item-item.result in
    let item = item_next items c.loop-item.item-index i it c.loop-item-test.true c.item-item.is c.loop-item.invariant.counted in
    let within : i < length items = slice_get_within items i it item in
    let more : c.add.new.self.done ≡ i + 1 = one_more c.loop-item.count c.add.new.self c.in-Ok.join c.add.ensures in
    record {
      counted = ap (λ n. n + 1) c.loop-item.invariant.counted ∙ sym more;
      few = c.loop-item.invariant.few;
      can = can_go_on c.loop-item.count c.add.new.self c.in-Ok.join c.add.ensures (omega (arith, within, c.loop-item.invariant.few))
          c.loop-item.invariant.can;
      owed = λ s stands.
          (let at = c.loop-item.invariant.reached s stands in
          let k = course s (take i items) in
          let next = c.in-Ok.ensures.step k.state at.1 in
          let flags = ap (λ l. padded (map (is_owed (it ∷ [])) l)) (course_places s (take i items)) in
          c.in-Ok.ensures.owed k.state at.1
          ∙ item_owed k it c.in-Ok.join next.0 s.subscriptions _ _ at.0.stop next.1 (c.loop-item.invariant.owed s stands) flags
          ∙ ap (λ (x : Course). padded (map (is_owed x.taken) s.subscriptions)) (sym (next_course s items i it item))
          ∙ ap (λ n. padded (map (is_owed (course s (take n items)).taken) s.subscriptions)) (sym more));
      reached = λ s stands.
          (let at = c.loop-item.invariant.reached s stands in
          let next = c.in-Ok.ensures.step (course s (take i items)).state at.1 in
          let there = next_reached s items it c.in-Ok.join next.0 c.loop-item.count c.add.new.self item at.0 next.1 c.add.ensures in
          (there.0, subst (λ (t : State). ContentStands c.merge_item.new.self t) there.1 next.2));
    }

pub returns-clause-step : goal.returns-clause-step
returns-clause-step c = λ s stands.
    let items = c.args.items.now in
    let i = c.loop-item.count.done in
    let k = course s (take i items) in
    let at = c.loop-item.invariant.reached s stands in
    let gone : slice_get items i ≡ None = slice_get_past items i (omega (arith, c.loop-item-test.false, c.loop-item.invariant.counted)) in (
      k.state,
      merge_done s items c.loop-item.count c.number-2.result
          (course_number s k c.number-2.result c.loop-item.owed c.number-2.ensures (c.loop-item.invariant.owed s stands))
          c.loop-item.invariant.few gone at.0,
      at.1,
    )
