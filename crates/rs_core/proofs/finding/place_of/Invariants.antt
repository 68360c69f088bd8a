use Rattle.std.proofs.Common.{◌≡◌, drop}
use Rattle.rs_core.specs.Finding.{first_sought}
use Rattle.rs_core.proofs.finding.place_of.Given as goal

abbrev pub invariant-loop-i : goal.invariant-loop-i
invariant-loop-i l = first_sought l.what l.i (drop l.i l.services) (drop l.i l.states) ≡ first_sought l.what 0 l.services l.states
