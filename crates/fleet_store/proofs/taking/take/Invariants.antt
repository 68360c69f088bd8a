use Rattle.std.proofs.Common.{take}
use Rattle.history.specs.History.{Path}
use Rattle.fleet_store.specs.Taking.{TakesItem, taking_begun, taking_of}
use Rattle.fleet_store.proofs.taking.take.Given as goal

abbrev pub invariant-loop-item : goal.invariant-loop-item
invariant-loop-item l = Path TakesItem (taking_begun l.fn.store l.fn.dead) (take l.item-index l.items) (taking_of l.store l.dead l.taken)
