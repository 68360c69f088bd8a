-- Instances that RS doesn't count any more: what comes from them is refused.
use Rattle.std.specs.Prelude.{◌≡◌, ℕ, ◌<◌, false, List, Option, Some, None, Err, option_map}
use Rattle.ds_names.specs.Endpoint.{EndpointRecord}
use Rattle.rs_core.specs.declared.action.Action.{Action}
use Rattle.rs_core.specs.declared.event.Event.{Event}
use Rattle.rs_core.specs.declared.event.Event.TheVariants.{Beat, Death}
use Rattle.rs_core.specs.declared.fault.RsFault.TheVariants.{OldEndpoint}
use Rattle.rs_core.specs.declared.plan.Plan.{Plan}
use Rattle.rs_core.specs.declared.state.State.{State}
use Rattle.rs_core.specs.declared.state.State.TheVariants.{Down, Up, Waiting, GaveUp}
use Rattle.rs_core.specs.declared.state.Running.{Running}
use Rattle.rs_core.specs.declared.finding.Sought.TheVariants.{Missed}
use Rattle.rs_settings.specs.declared.service.Service.{Service}
use Rattle.rs_core.specs.Finding.{is_sought}
use Rattle.rs_core.specs.Machine.{asked}
use Rattle.rs_core.specs.Planning.{IsPlanOf, starts_instance}
use Rattle.rs_core.specs.Run.{RsRun}
use Rattle.rs_core.specs.State.{RsRecord, state_at}
use Rattle.rs_core.specs.Step.{RsStep}

-- The endpoint of the instance that RS counts as up.
abbrev pub endpoint_in_force : State → Option EndpointRecord
endpoint_in_force (Up r) = Some r.endpoint
endpoint_in_force (Waiting p) = None
endpoint_in_force Down = None
endpoint_in_force GaveUp = None

-- The generation of that instance.
abbrev pub in_force : State → Option ℕ
in_force state = option_map (λ e. e.generation) (endpoint_in_force state)

-- Whether no generation is two services', and each is below the next one.
pub record AreSingle (s : RsRecord) : Type 0 where
  pub below : (k g : ℕ) → in_force (state_at s k) ≡ Some g → g < s.next
  pub single : (j k g : ℕ) → in_force (state_at s j) ≡ Some g → in_force (state_at s k) ≡ Some g → j ≡ k

-- Whether RS counts no instance with the endpoint's generation, nor gives that again.
pub record IsUncounted (s : RsRecord) (endpoint : EndpointRecord) : Type 0 where
  pub given : endpoint.generation < s.next
  pub none : (k : ℕ) → in_force (state_at s k) ≡ Some endpoint.generation → ⊥

-- Whether an event of the instance is refused with OldEndpoint.
pub record IsLate (s : RsRecord) (endpoint : EndpointRecord) (tick : ℕ) : Type 0 where
  pub beat : asked s (Beat endpoint) tick ≡ Err OldEndpoint
  pub death : (cause : ℕ) → asked s (Death endpoint cause) tick ≡ Err OldEndpoint

-- A law: an instance that RS doesn't count is late after any steps.
abbrev pub UncountedStayLate : Type 0
UncountedStayLate =
    (s t : RsRecord) (steps : List (List Action)) (endpoint : EndpointRecord) (tick : ℕ) → IsUncounted s endpoint → RsRun s steps t →
    IsLate t endpoint tick

-- A law: after its death RS doesn't count an instance.
abbrev pub DeadAreUncounted : Type 0
DeadAreUncounted =
    (s t : RsRecord) (k cause tick : ℕ) (actions : List Action) (endpoint : EndpointRecord) → AreSingle s →
    endpoint_in_force (state_at s k) ≡ Some endpoint → RsStep s (Death endpoint cause) tick actions t → IsUncounted t endpoint

-- A law: steps keep generations single.
abbrev pub SingleStays : Type 0
SingleStays =
    (s t : RsRecord) (event : Event) (tick : ℕ) (actions : List Action) → RsStep s event tick actions t → AreSingle s → AreSingle t

-- A law: a plan that starts no instance takes no generation.
abbrev pub OtherPlansKeepNext : Type 0
OtherPlansKeepNext =
    (s t : RsRecord) (event : Event) (tick : ℕ) (actions : List Action) (p : Plan) → RsStep s event tick actions t →
    IsPlanOf s event tick p → starts_instance p ≡ false → t.next ≡ s.next

-- Whether RS heard the service's instance, under this endpoint, at the tick. Services have the endpoints that they had.
pub record BeatIsNoted (s t : RsRecord) (k tick : ℕ) (endpoint : EndpointRecord) : Type 0 where
  pub heard : (r : Running) × (state_at t k ≡ Up r) × (r.endpoint ≡ endpoint) × (r.beat ≡ tick)
  pub same : (j : ℕ) → endpoint_in_force (state_at t j) ≡ endpoint_in_force (state_at s j)
  pub next : t.next ≡ s.next

-- A law: RS notes a heartbeat of an instance that it counts.
abbrev pub BeatsAreNoted : Type 0
BeatsAreNoted =
    (s t : RsRecord) (k tick : ℕ) (actions : List Action) (endpoint : EndpointRecord) → AreSingle s →
    endpoint_in_force (state_at s k) ≡ Some endpoint → RsStep s (Beat endpoint) tick actions t → BeatIsNoted s t k tick endpoint

-- A law: no heartbeat is missed of an instance that RS heard at the tick.
abbrev pub HeardAreNotMissed : Type 0
HeardAreNotMissed = (service : Service) (r : Running) (tick : ℕ) → r.beat ≡ tick → is_sought (Missed tick) service (Up r) ≡ false
