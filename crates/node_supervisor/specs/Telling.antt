-- Events that RS takes beside its store, and those that are refused.
use Rattle.std.specs.Prelude.{◌≡◌, ◌⊎◌, ℕ, Bool, true, false, List, Option, Some, None}
use Rattle.ds_content.specs.Content.{ContentRecord}
use Rattle.ds_names.specs.Endpoint.{EndpointRecord}
use Rattle.process_keeper.specs.Order.{AcceptsAt}
use Rattle.process_keeper.specs.declared.input.Input.TheVariants.{Failed}
use Rattle.process_keeper.specs.declared.keeper.Keeper.{Keeper}
use Rattle.process_keeper.specs.declared.lifecycle.Lifecycle.{Lifecycle}
use Rattle.rs_core.specs.declared.action.Action.{Action}
use Rattle.rs_core.specs.declared.event.Event.{Event}
use Rattle.rs_core.specs.declared.event.Event.TheVariants.{Death}
use Rattle.rs_core.specs.declared.fault.RsFault.{RsFault}
use Rattle.rs_core.specs.declared.plan.Plan.{Plan}
use Rattle.rs_core.specs.Late.{endpoint_in_force}
use Rattle.rs_core.specs.Planning.{IsPlanOf}
use Rattle.rs_core.specs.State.{RsRecord, state_at}
use Rattle.rs_store.specs.Serving.{EventTurn, before_beginning}
use Rattle.rs_store.specs.declared.call.RsReply.{RsReply}
use Rattle.rs_store.specs.declared.call.RsReply.TheVariants.{Refused as RefusedReply}
use Rattle.supervisor.specs.Following.{LabelsFollow}
use Rattle.supervisor.specs.Telling.{IsDeadAt, IsPlanned, IsRefusedBy, IsReportRefused, IsVouchRefused, NoneDied, Told, VouchesAt, is_held}
use Rattle.supervisor.specs.declared.fault.SupervisorFault.{SupervisorFault}
use Rattle.supervisor.specs.declared.fault.SupervisorFault.TheVariants.{NotDead, Refused}

-- RS's part of an event is what a supervisor tells it. Before RS has begun, no generation is given.
abbrev pub ToldBy : Option RsRecord → ℕ → ℕ → Event → ℕ → Option RsRecord → ℕ → Type 0
ToldBy (Some rs) next file event tick (Some after) given = (actions : List Action) × Told rs next file event tick actions after given
ToldBy None next file event tick None given = given ≡ next
ToldBy (Some rs) next file event tick None given = ⊥
ToldBy None next file event tick (Some after) given = ⊥

-- Whether the event starts an instance, and the file isn't ahead.
abbrev pub Holds : Option RsRecord → ℕ → ℕ → Event → ℕ → Bool → Type 0
Holds (Some rs) next file event tick true = IsPlanned (λ p. is_held p next file) rs event tick
Holds (Some rs) next file event tick false = (p : Plan) → IsPlanOf rs event tick p → is_held p next file ≡ false
Holds None next file event tick held = held ≡ false

-- Whether the fault applies to the event. Before RS has begun, no service is known.
abbrev pub IsNodeRefusal : Option RsRecord → ℕ → ℕ → Event → ℕ → SupervisorFault → Type 0
IsNodeRefusal (Some rs) next file event tick fault = IsRefusedBy rs next file event tick fault
IsNodeRefusal None next file event tick (Refused fault) = before_beginning event ≡ RefusedReply fault
IsNodeRefusal None next file event tick fault = ⊥

-- ---- reports and heartbeats

-- The report is the turn of the death of the instance that RS counts as up.
abbrev pub ReportTurn : Option RsRecord → ContentRecord → ℕ → ℕ → ℕ → RsReply → Option RsRecord → ContentRecord → Type 0
ReportTurn (Some rs) old k cause tick reply after new =
    (endpoint : EndpointRecord) × (endpoint_in_force (state_at rs k) ≡ Some endpoint) ×
    EventTurn (Death endpoint cause) tick (Some rs) old reply after new
ReportTurn None old k cause tick reply after new = ⊥

-- Whether the fault applies to a report.
abbrev pub IsNodeReportRefused : Option RsRecord → Keeper → ℕ → ℕ → ℕ → SupervisorFault → Type 0
IsNodeReportRefused (Some rs) keeper k cause tick fault =
    IsReportRefused rs keeper.labels.items keeper.next keeper.file k cause tick fault
IsNodeReportRefused None keeper k cause tick fault = fault ≡ NotDead

-- Whether RS hears a heartbeat of the label's instance because its start is pending.
abbrev pub VouchesNode : Option RsRecord → List Lifecycle → ℕ → ℕ → Bool → Option RsRecord → Type 0
VouchesNode (Some rs) labels k tick heard (Some after) = VouchesAt rs labels k tick heard after
VouchesNode None labels k tick heard None = heard ≡ false
VouchesNode (Some rs) labels k tick heard None = ⊥
VouchesNode None labels k tick heard (Some after) = ⊥

-- Whether RS refuses that heartbeat.
abbrev pub IsNodeVouchRefused : Option RsRecord → ℕ → ℕ → SupervisorFault → Type 0
IsNodeVouchRefused (Some rs) k tick fault = IsVouchRefused rs k tick fault
IsNodeVouchRefused None k tick fault = ⊥

-- The generation of RS's next start.
abbrev pub next_start : Option RsRecord → ℕ
next_start None = 0
next_start (Some rs) = rs.next

-- ---- labels beside a node
abbrev pub FollowsNode : Option RsRecord → ℕ → List Lifecycle → List Lifecycle → Type 0
FollowsNode (Some rs) deadline old new = LabelsFollow rs deadline old new
FollowsNode None deadline old new = new ≡ old

abbrev pub IsDeadIn : Option RsRecord → List Lifecycle → ℕ → EndpointRecord → Type 0
IsDeadIn (Some rs) labels k endpoint = IsDeadAt rs labels k endpoint
IsDeadIn None labels k endpoint = ⊥

abbrev pub NoneIsDead : Option RsRecord → List Lifecycle → ℕ → Type 0
NoneIsDead (Some rs) labels k = NoneDied rs labels k
NoneIsDead None labels k = Unit {0}

abbrev pub IsPendingIn : Option RsRecord → List Lifecycle → ℕ → EndpointRecord → Type 0
IsPendingIn (Some rs) labels k endpoint = AcceptsAt labels k (Failed 0) true × (endpoint_in_force (state_at rs k) ≡ Some endpoint)
IsPendingIn None labels k endpoint = ⊥

abbrev pub NoneIsPending : Option RsRecord → List Lifecycle → ℕ → Type 0
NoneIsPending (Some rs) labels k = AcceptsAt labels k (Failed 0) false ⊎ (endpoint_in_force (state_at rs k) ≡ None)
NoneIsPending None labels k = Unit {0}

-- Why RS refused the event, if it did.
abbrev pub why_refused : RsReply → Option RsFault
why_refused (RefusedReply fault) = Some fault
why_refused _ = None
