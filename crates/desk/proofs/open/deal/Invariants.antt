use Rattle.std.proofs.Common.{◌≡◌, ◌<◌, ◌≤◌, [], Some, vec_capacity}
use Rattle.desk_rule.specs.Seat.{IsAtTable}
use Rattle.desk.proofs.OpenLemmas.{Dealt, LeftOver}
use Rattle.desk.proofs.open.deal.Given as goal

abbrev pub invariant-loop-left : goal.invariant-loop-left
invariant-loop-left g l =
    (0 < l.left) × IsAtTable l.fn.shared.table_id l.seat × (l.seat.me.1 ≡ []) × LeftOver l.fn.machine.value l.fn.first l.left l.seat.me.0
    × (l.fn.count ≤ vec_capacity l.passes) × Dealt l.fn.shared.table_id (Some l.fn.machine.value) l.fn.first l.fn.count l.left
    l.passes.items

abbrev pub decreases-loop-left : goal.decreases-loop-left
decreases-loop-left g l = l.left
