-- What one step of the restart machine says about instances and their labels.
use Rattle.std.specs.Prelude.{◌≡◌, ◌⊎◌, ℕ, ◌+◌, ◌<◌, ◌≤◌, false, List, [], length, Option, Some, None, Contains}
use Rattle.std.specs.List.{AllByRecursion}
use Rattle.ds_names.specs.Endpoint.{EndpointRecord}
use Rattle.ds_entry.specs.Change.{ChangeRecord}
use Rattle.rs_core.specs.declared.action.Action.{Action}
use Rattle.rs_core.specs.declared.event.Event.{Event}
use Rattle.rs_core.specs.declared.state.State.{State}
use Rattle.rs_core.specs.declared.state.State.TheVariants.{Up}
use Rattle.rs_core.specs.declared.state.Running.{Running}
use Rattle.rs_core.specs.declared.finding.Sought.TheVariants as sought
use Rattle.rs_core.specs.Action.{IsActionInPlace, label_put, label_gone}
use Rattle.rs_core.specs.State.{RsRecord, state_at, service_at}
use Rattle.rs_core.specs.Finding.{service_place}
use Rattle.rs_core.specs.Machine.{asked}
use Rattle.rs_core.specs.Judging.{asks, has_actions}
use Rattle.rs_core.specs.Run.{offers}
use Rattle.rs_core.specs.Step.{RsStep}

-- ---- labels

-- The label of the service with this index.
abbrev pub label_at : RsRecord → ℕ → List ℕ
label_at s i = (service_at s i).label

-- The index of the service with the label.
abbrev pub place_of_label : RsRecord → List ℕ → Option ℕ
place_of_label s label = service_place s (sought.Label label)

-- A law: a service that is found by a label has that label.
abbrev pub LabelsAreFound : Type 0
LabelsAreFound =
    (s : RsRecord) (label : List ℕ) (i : ℕ) → place_of_label s label ≡ Some i → (i < length s.settings.services) × (label_at s i ≡ label)

-- ---- a step

-- An instance that began: the index of its service, and its endpoint.
pub record Begun : Type 0 where
  pub place : ℕ
  pub endpoint : EndpointRecord

-- The instance of this service and endpoint.
abbrev pub begun_at : ℕ → EndpointRecord → Begun
begun_at place endpoint = record { place = place; endpoint = endpoint }

-- Whether this is the next generation after the step: one more if an instance began, which took the old one, else
-- unchanged.
abbrev pub IsNextAfter : ℕ → Option Begun → ℕ → Type 0
IsNextAfter next None after = after ≡ next
IsNextAfter next (Some b) after = (b.endpoint.generation ≡ next) × (after ≡ next + 1) × (next ≤ 2097151)

-- Whether the change puts the label of the instance that began.
abbrev pub IsPutOf : RsRecord → Option Begun → ChangeRecord → Type 0
IsPutOf s None c = ⊥
IsPutOf s (Some b) c = c ≡ label_put (label_at s b.place) b.endpoint

-- Whether the change ends the label of an instance that ran.
abbrev pub IsGoneOf : RsRecord → ChangeRecord → Type 0
IsGoneOf s c = (i : ℕ) × (r : Running) × (state_at s i ≡ Up r) × (c ≡ label_gone (label_at s i) r.endpoint.generation)

-- Whether the service's instance ran before, or began.
abbrev pub RanOrBegan : State → Option Begun → ℕ → EndpointRecord → Type 0
RanOrBegan old begun i endpoint = ((q : Running) × (old ≡ Up q) × (q.endpoint ≡ endpoint)) ⊎ (begun ≡ Some (begun_at i endpoint))

-- The consequences of a step with these actions; at most one instance begins.
pub record StepSays (s : RsRecord) (actions : List Action) (t : RsRecord) : Type 0 where
  pub settings : t.settings ≡ s.settings
  pub count : length t.states ≡ length s.states
  -- at most a kill, a label ended, a sweep, a start and a label put
  pub few : length actions ≤ 5
  -- copying an action takes no memory
  pub in_place : AllByRecursion IsActionInPlace actions
  pub begun : Option Begun
  pub next : IsNextAfter s.next begun t.next
  -- the label of the instance that began is put; otherwise only labels of instances that ran are ended
  pub put : (b : Begun) → begun ≡ Some b → Contains (offers actions) (label_put (label_at s b.place) b.endpoint)
  pub offered : (c : ChangeRecord) → Contains (offers actions) c → IsPutOf s begun c ⊎ IsGoneOf s c
  -- whatever runs after the step ran before it or began in it
  pub runs : (i : ℕ) (r : Running) → state_at t i ≡ Up r → RanOrBegan (state_at s i) begun i r.endpoint

-- A law: every step has these consequences.
abbrev pub StepsSay : Type 0
StepsSay = (s t : RsRecord) (event : Event) (tick : ℕ) (actions : List Action) → RsStep s event tick actions t → StepSays s actions t

-- A law: a step at an event that calls for no actions has none.
abbrev pub QuietStepsAreEmpty : Type 0
QuietStepsAreEmpty = (s t : RsRecord) (event : Event) (tick : ℕ) (actions : List Action) →
    RsStep s event tick actions t → asks has_actions (asked s event tick) ≡ false → actions ≡ []
