use Rattle.std.proofs.Common.{◌≡◌, ℕ, ◌≤◌, ◌^◌, drop}
use Rattle.std.specs.Prelude.{◌||◌}
use Rattle.rs_core.specs.Reading.{any_due, is_from}
use Rattle.rs_core.proofs.due.first_due.Given as goal

-- what is due of all services is due from the first tick so far on, or due of a service from the index on
abbrev pub invariant-loop-i : goal.invariant-loop-i
invariant-loop-i l =
    (tick : ℕ) → tick ≤ 2 ^ 62 → (is_from l.first tick || any_due tick (drop l.i l.services) (drop l.i l.states)) ≡ any_due tick l.services
    l.states
