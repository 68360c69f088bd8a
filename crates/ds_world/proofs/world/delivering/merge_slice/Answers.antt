use Rattle.std.proofs.Common.{◌≡◌, ◌++◌, None, ap₂, sym, ◌∙◌, take-append-drop}
use Rattle.ds_world.specs.Tally.{tally_of}
use Rattle.ds_world.proofs.MergeLemmas.{delivering_ends, delivering_goes_on, none_stopped, still_stopped}
use Rattle.ds_world.proofs.world.delivering.merge_slice.Goals as goal

pub loop-left-preserved : goal.loop-left-preserved
loop-left-preserved c =
    let left = c.loop-left.left.now in
    let is : left ≡ c.split_at.result.0.now ++ c.split_at.result.1.now =
    sym (ap₂ ◌++◌ c.split_at.ensures.front c.split_at.ensures.back ∙ take-append-drop c.min.result left) in
    delivering_goes_on c.args.store.now c.loop-left.store c.merge_group.new.store c.args.items.now left c.split_at.result.0.now
    c.split_at.result.1.now (tally_of c.loop-left.tally) (tally_of c.merge_group.result) (tally_of c.add.new.self)
    c.loop-left.invariant is (let n : c.loop-left.tally.stop ≡ None =
    none_stopped c.loop-left.tally.stop c.is_none.result c.is_none.ensures c.loop-left-test.true in
    n) c.merge_group.ensures.takes c.merge_group.ensures.counted c.add.ensures

pub returns-after-loop-left : goal.returns-after-loop-left
returns-after-loop-left c = delivering_ends c.args.store.now c.loop-left.store c.args.items.now c.loop-left.left.now
    (tally_of c.loop-left.tally) c.loop-left.invariant
    (λ none. absurd (still_stopped c.loop-left.tally.stop c.is_none.result c.is_none.ensures c.loop-left-test.false none))
