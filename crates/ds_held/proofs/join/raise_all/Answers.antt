use Rattle.std.proofs.Common.{◌+◌, ap}
use Rattle.ds_held.specs.Kept.{floored}
use Rattle.ds_held.proofs.JoinLemmas.{goes_on, stops}
use Rattle.ds_held.proofs.join.raise_all.Goals as goal

pub returns-in-Err-clause-stopped : goal.returns-in-Err-clause-stopped
returns-in-Err-clause-stopped c =
    stops floored c.args.held.now c.args.other.now c.loop-floor.held c.loop-floor.done c.loop-floor.floor-index c.loop-floor.invariant.0
    c.loop-floor.invariant.1
    c.floor-item.result c.loop-floor-test.true c.floor-item.is c.raise.new.self c.in-Err.fault c.in-Err.ensures.answer
    c.in-Err.ensures.after

pub loop-floor-preserved : goal.loop-floor-preserved
loop-floor-preserved c = (
  ap (λ n. n + 1) c.loop-floor.invariant.0,
  goes_on floored c.args.held.now c.args.other.now c.loop-floor.held c.loop-floor.done c.loop-floor.floor-index c.loop-floor.invariant.0
      c.loop-floor.invariant.1
      c.floor-item.result c.loop-floor-test.true c.floor-item.is c.raise.new.self c.in-Ok.field-0 c.in-Ok.ensures.answer
      c.in-Ok.ensures.after,
)
