-- Counts of items by their outcome.
use Rattle.std.specs.Prelude.{◌+◌, ◌≤◌, ◌<◌, ◌^◌, Option, Some, None}
use Rattle.ds_join.specs.declared.merge.Merge.{Merge}
use Rattle.ds_join.specs.declared.merge.Merge.TheVariants.{Taken, Known, Stale}
use Rattle.ds_join.specs.declared.merge.JoinFault.{JoinFault}
use Rattle.ds_join.specs.declared.merge.Stop.{Stop}
use Rattle.ds_join.specs.declared.count.Count.{Count}

-- The count of no items.
abbrev pub none_counted : Count
none_counted = record { done = 0; taken = 0; stale = 0 }

-- The count with one more item, by its answer: taken, stale, or neither.
abbrev pub counted : Count → Option Merge → Count
counted n (Some Taken) = record { done = n.done + 1; taken = n.taken + 1; stale = n.stale }
counted n (Some Stale) = record { done = n.done + 1; taken = n.taken; stale = n.stale + 1 }
counted n (Some Known) = record { done = n.done + 1; taken = n.taken; stale = n.stale }
counted n None = record { done = n.done + 1; taken = n.taken; stale = n.stale }

-- Whether neither the taken nor the stale items are more than the handled ones, and one more can be counted.
pub record CanCountOne (n : Count) : Type 0 where
  pub taken : n.taken ≤ n.done
  pub stale : n.stale ≤ n.done
  pub done : n.done + 1 < 2 ^ 64

-- The error of a join that stopped after the counted items with this fault.
abbrev pub stop_after : Count → JoinFault → Stop
stop_after n fault = record { done = n.done; fault = fault }
