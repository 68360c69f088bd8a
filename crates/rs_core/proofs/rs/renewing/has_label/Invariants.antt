use Rattle.std.proofs.Common.{◌≡◌, drop}
use Rattle.rs_core.specs.Renewal.{has_label}
use Rattle.rs_core.proofs.rs.renewing.has_label.Given as goal

-- one of the services has the label if one from the index on has it
abbrev pub invariant-loop-i : goal.invariant-loop-i
invariant-loop-i l = has_label (drop l.i l.services) l.label ≡ has_label l.services l.label
