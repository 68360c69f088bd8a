use Rattle.std.proofs.Common.{◌≡◌, ◌-◌, ◌≤◌, length, not, true, false}
use Rattle.std.specs.List.{AllWithin}
use Rattle.std.specs.Option.{option_copied}
use Rattle.ds_entry.specs.Change.{ChangeRecord}
use Rattle.ds_join.specs.Reading.{comes_after}
use Rattle.ds_held.proofs.order.begin_after.Given as goal

abbrev pub invariant-loop-low : goal.invariant-loop-low
invariant-loop-low l =
    (l.low ≤ l.high) × (l.high ≤ length l.changes) ×
    AllWithin (λ (c : ChangeRecord). not (comes_after (option_copied l.after) c) ≡ true) l.changes 0 l.low
    × AllWithin (λ (c : ChangeRecord). not (comes_after (option_copied l.after) c) ≡ false) l.changes l.high (length l.changes)

abbrev pub decreases-loop-low : goal.decreases-loop-low
decreases-loop-low l = l.high - l.low
