use Rattle.std.proofs.Common.{◌≡◌, drop}
use Rattle.rs_core.specs.Renewal.{first_left_out}
use Rattle.rs_core.proofs.rs.renewing.first_left_out.Given as goal

abbrev pub invariant-loop-i : goal.invariant-loop-i
invariant-loop-i l = first_left_out l.new l.i (drop l.i l.services) (drop l.i l.states) ≡ first_left_out l.new 0 l.services l.states
