use Rattle.std.proofs.Common.{◌≡◌, ◌-◌, ◌≤◌, length}
use Rattle.std.specs.List.{AllWithin}
use Rattle.std.specs.declared.cmp.Ordering.TheVariants.{Less, Greater}
use Rattle.ds_names.specs.Key.{key_cmp}
use Rattle.ds_entry.specs.Change.{ChangeRecord}
use Rattle.ds_held.proofs.order.search.Given as goal

abbrev pub invariant-loop-low : goal.invariant-loop-low
invariant-loop-low l =
    (l.low ≤ l.high) × (l.high ≤ length l.changes) × AllWithin (λ (c : ChangeRecord). key_cmp c.key l.key ≡ Less) l.changes 0 l.low
    × AllWithin (λ (c : ChangeRecord). key_cmp c.key l.key ≡ Greater) l.changes l.high (length l.changes)

abbrev pub decreases-loop-low : goal.decreases-loop-low
decreases-loop-low l = l.high - l.low
