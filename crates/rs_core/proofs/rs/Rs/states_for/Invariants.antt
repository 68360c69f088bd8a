use Rattle.std.proofs.Common.{◌≡◌, map, take}
use Rattle.rs_core.specs.Renewal.{state_of_label}
use Rattle.rs_core.proofs.rs.Rs.states_for.Given as goal

-- the services before the index have the states of their labels
abbrev pub invariant-loop-i : goal.invariant-loop-i
invariant-loop-i l = l.states.items ≡ map (λ service. state_of_label l.self service.label) (take l.i l.new)
