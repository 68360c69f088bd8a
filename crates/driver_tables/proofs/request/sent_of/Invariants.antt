use Rattle.std.proofs.Common.{◌≡◌, ◌==◌, drop}
use Rattle.std.specs.List.{find}
use Rattle.driver_tables.specs.declared.request.Pending.{Pending}
use Rattle.driver_tables.proofs.request.sent_of.Given as goal

abbrev pub invariant-loop-p : goal.invariant-loop-p
invariant-loop-p l = find (λ (p : Pending). p.id == l.id) (drop l.p-index l.p-items) ≡ find (λ (p : Pending). p.id == l.id) l.p-items
