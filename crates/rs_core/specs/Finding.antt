-- Which service an event is about.
use Rattle.std.specs.Prelude.{ℕ, ◌+◌, ◌-◌, ◌*◌, Bool, false, ◌&&◌, nat_le, nat_lt, List, ◌∷◌, Option, Some, None, if◌then◌else◌}
use Rattle.ds_names.specs.Endpoint.{is_same_endpoint}
use Rattle.rs_settings.specs.Values.{is_same}
use Rattle.rs_settings.specs.declared.service.Service.{Service}
use Rattle.rs_core.specs.declared.state.State.{State}
use Rattle.rs_core.specs.declared.state.State.TheVariants.{Up, Waiting}
use Rattle.rs_core.specs.declared.state.Running.{Running}
use Rattle.rs_core.specs.declared.state.Pause.{Pause}
use Rattle.rs_core.specs.declared.finding.Sought.{Sought}
use Rattle.rs_core.specs.declared.finding.Sought.TheVariants as sought
use Rattle.rs_core.specs.State.{RsRecord}

-- Whether an instance runs and passes the test.
abbrev pub when_up : (Running → Bool) → State → Bool
when_up test (Up r) = test r
when_up test _ = false

-- Whether the service waits and its wait passes the test.
abbrev pub when_waiting : (Pause → Bool) → State → Bool
when_waiting test (Waiting p) = test p
when_waiting test _ = false

-- Whether the service matches: it has the label; its instance has the endpoint; its heartbeat is missed (none for two
-- periods); a ping is due (none for one period); its wait is over.
abbrev pub is_sought : Sought → Service → State → Bool
is_sought (sought.Label label) service state = is_same service.label label
is_sought (sought.Instance endpoint) service state = when_up (λ r. is_same_endpoint r.endpoint endpoint) state
is_sought (sought.Missed tick) service state = nat_lt 0 service.period && when_up (λ r. nat_le (2 * service.period) (tick - r.beat)) state
is_sought (sought.Silent tick) service state = nat_lt 0 service.period && when_up (λ r. nat_le service.period (tick - r.ping)) state
is_sought (sought.Rested tick) service state = when_waiting (λ p. nat_le p.until tick) state

-- The index of the first matching service, counted from `i`.
abbrev pub first_sought : Sought → ℕ → List Service → List State → Option ℕ
first_sought what i (service ∷ services) (state ∷ states) =
    if is_sought what service state then Some i else first_sought what (i + 1) services states
first_sought what i _ _ = None

-- The index of RS's first matching service.
abbrev pub service_place : RsRecord → Sought → Option ℕ
service_place s what = first_sought what 0 s.settings.services s.states
