-- Events that RS takes, and those that a supervisor refuses.
use Rattle.std.specs.Prelude.{◌≡◌, ◌≢◌, ◌⊎◌, ℕ, nat_lt, Bool, true, false, not, ◌&&◌, List, Some, None, slice_get, if◌then◌else◌}
use Rattle.ds_names.specs.Endpoint.{EndpointRecord}
use Rattle.process_keeper.specs.Inputs.{is_accepted}
use Rattle.process_keeper.specs.Order.{AcceptsAt, next_given}
use Rattle.process_keeper.specs.declared.input.Input.TheVariants.{Failed, Reported}
use Rattle.process_keeper.specs.declared.lifecycle.Lifecycle.{Lifecycle}
use Rattle.rs_core.specs.declared.action.Action.{Action}
use Rattle.rs_core.specs.declared.event.Event.{Event}
use Rattle.rs_core.specs.declared.event.Event.TheVariants.{Beat, Death}
use Rattle.rs_core.specs.declared.fault.RsFault.{RsFault}
use Rattle.rs_core.specs.declared.fault.RsFault.TheVariants.{NoRoom}
use Rattle.rs_core.specs.declared.plan.Plan.{Plan}
use Rattle.rs_core.specs.Judging.{refusal, asks, has_actions}
use Rattle.rs_core.specs.Machine.{asked}
use Rattle.rs_core.specs.Late.{endpoint_in_force}
use Rattle.rs_core.specs.Planning.{IsPlanOf, acts, starts_instance}
use Rattle.rs_core.specs.State.{RsRecord, state_at}
use Rattle.rs_core.specs.Step.{RsStep}
use Rattle.supervisor.specs.declared.fault.SupervisorFault.{SupervisorFault}
use Rattle.supervisor.specs.declared.fault.SupervisorFault.TheVariants.{NotDead, Refused, Unwritten}

-- The next generation after a start was given one, if the file is ahead.
abbrev pub next_after_start : ℕ → ℕ → ℕ → ℕ → ℕ
next_after_start before after next file = if nat_lt before after then next_given next file else next

-- Whether the plan starts an instance, and the file isn't ahead.
abbrev pub is_held : Plan → ℕ → ℕ → Bool
is_held plan next file = starts_instance plan && not (nat_lt next file)

-- RS takes the event. If that starts an instance, its generation is on disk, and is counted.
pub record Told (rs : RsRecord) (next file : ℕ) (event : Event) (tick : ℕ) (actions : List Action) (after : RsRecord) (given : ℕ)
    : Type 0 where
  pub planned : Plan
  pub of_event : IsPlanOf rs event tick planned
  pub written : is_held planned next file ≡ false
  pub step : RsStep rs event tick actions after
  pub counts : given ≡ next_after_start rs.next after.next next file

-- Whether RS's plan of the event passes the test.
abbrev pub IsPlanned : (Plan → Bool) → RsRecord → Event → ℕ → Type 0
IsPlanned test rs event tick = (p : Plan) × IsPlanOf rs event tick p × (test p ≡ true)

-- Whether the fault applies to the event. Lack of memory is RS's, for a plan with actions.
abbrev pub IsRefusedBy : RsRecord → ℕ → ℕ → Event → ℕ → SupervisorFault → Type 0
IsRefusedBy rs next file event tick (Refused fault) =
    (refusal rs event tick ≡ Some fault) ⊎ ((fault ≡ NoRoom) × IsPlanned acts rs event tick)
IsRefusedBy rs next file event tick Unwritten = IsPlanned (λ p. is_held p next file) rs event tick
IsRefusedBy rs next file event tick NotDead = ⊥

-- Whether RS counts the label's instance, under this endpoint, as up, and its leader exited.
abbrev pub IsDeadAt : RsRecord → List Lifecycle → ℕ → EndpointRecord → Type 0
IsDeadAt rs labels k endpoint =
    ((p : Lifecycle) × (slice_get labels k ≡ Some p) × (is_accepted p (Reported 0) ≡ true)) ×
    (endpoint_in_force (state_at rs k) ≡ Some endpoint)

abbrev pub NoneDied : RsRecord → List Lifecycle → ℕ → Type 0
NoneDied rs labels k = (endpoint : EndpointRecord) → IsDeadAt rs labels k endpoint → ⊥

-- RS takes the death of the label's instance.
abbrev pub ReportIsTold : RsRecord → ℕ → ℕ → ℕ → ℕ → ℕ → List Action → RsRecord → ℕ → Type 0
ReportIsTold rs next file k cause tick actions after given =
    (endpoint : EndpointRecord) × (endpoint_in_force (state_at rs k) ≡ Some endpoint) ×
    Told rs next file (Death endpoint cause) tick actions after given

-- Whether the fault applies to a report.
abbrev pub IsReportRefused : RsRecord → List Lifecycle → ℕ → ℕ → ℕ → ℕ → ℕ → SupervisorFault → Type 0
IsReportRefused rs labels next file k cause tick fault =
    ((fault ≡ NotDead) × NoneDied rs labels k) ⊎
    ((endpoint : EndpointRecord) × IsDeadAt rs labels k endpoint × IsRefusedBy rs next file (Death endpoint cause) tick fault)

-- Whether RS hears a heartbeat of the label's instance because its start is pending. A label that accepts `Failed` has a pending start.
abbrev pub VouchesAt : RsRecord → List Lifecycle → ℕ → ℕ → Bool → RsRecord → Type 0
VouchesAt rs labels k tick true after =
    AcceptsAt labels k (Failed 0) true ×
    ((endpoint : EndpointRecord) × (endpoint_in_force (state_at rs k) ≡ Some endpoint) ×
    ((actions : List Action) × RsStep rs (Beat endpoint) tick actions after))
VouchesAt rs labels k tick false after =
    (AcceptsAt labels k (Failed 0) false ⊎ (endpoint_in_force (state_at rs k) ≡ None)) × (after ≡ rs)

-- Whether RS refuses that heartbeat, which has no actions and so takes no memory.
abbrev pub IsVouchRefused : RsRecord → ℕ → ℕ → SupervisorFault → Type 0
IsVouchRefused rs k tick fault =
    (endpoint : EndpointRecord) × (endpoint_in_force (state_at rs k) ≡ Some endpoint) ×
    ((cause : RsFault) × (fault ≡ Refused cause) × (cause ≢ NoRoom → refusal rs (Beat endpoint) tick ≡ Some cause) ×
    (cause ≡ NoRoom → asks has_actions (asked rs (Beat endpoint) tick) ≡ true))
