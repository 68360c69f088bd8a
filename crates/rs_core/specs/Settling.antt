-- Settling: a tick is reported again until RS has no more actions. RS's part in recovery, with a bound.
use Rattle.std.specs.Prelude.{◌≡◌, ◌≢◌, ℕ, ◌+◌, ◌^◌, ◌<◌, ◌≤◌, Bool, true, false, List, [], ◌∷◌, ◌++◌, length, if◌then◌else◌}
use Rattle.std.specs.List.{AllByRecursion}
use Rattle.history.specs.History.{Path}
use Rattle.rs_settings.specs.declared.service.Service.{Service}
use Rattle.rs_core.specs.declared.action.Action.{Action}
use Rattle.rs_core.specs.declared.event.Event.{Event}
use Rattle.rs_core.specs.declared.event.Event.TheVariants.{Tick}
use Rattle.rs_core.specs.declared.finding.Sought.TheVariants as sought
use Rattle.rs_core.specs.declared.state.Pause.{Pause}
use Rattle.rs_core.specs.declared.state.Running.{Running}
use Rattle.rs_core.specs.declared.state.State.{State}
use Rattle.rs_core.specs.declared.state.State.TheVariants.{Down, Up, Waiting, GaveUp}
use Rattle.rs_core.specs.State.{RsRecord, state_at, service_at}
use Rattle.rs_core.specs.Finding.{is_sought}
use Rattle.rs_core.specs.Machine.{failed, failures_left}
use Rattle.rs_core.specs.Reading.{is_due}
use Rattle.rs_core.specs.Run.{RsRun}
use Rattle.rs_core.specs.Step.{RsStep}

-- ---- reports of one tick

-- Accepted reports of one tick in order, each with its actions.
abbrev pub Ticks : ℕ → RsRecord → List (List Action) → RsRecord → Type 0
Ticks tick = Path (λ s actions t. RsStep s Tick tick actions t)

-- Whether each of the reports has actions.
abbrev pub AllAct : List (List Action) → Type 0
AllAct = AllByRecursion (λ actions. actions ≢ [])

-- Whether the tick is reported until RS has no action: these reports have actions, and the one after them has none.
pub record ReportsSettle (tick : ℕ) (s : RsRecord) (steps : List (List Action)) (t : RsRecord) : Type 0 where
  pub acted : AllAct steps
  pub reports : Ticks tick s (steps ++ [] ∷ []) t

-- The number of services that pass the test.
abbrev pub service_count : (Service → State → Bool) → List Service → List State → ℕ
service_count test (service ∷ services) (state ∷ states) = (if test service state then 1 else 0) + service_count test services states
service_count test _ _ = 0

-- The number of services for which something is due: a missed heartbeat, a ping, or a start.
abbrev pub due_count : ℕ → RsRecord → ℕ
due_count tick s = service_count (is_due tick) s.settings.services s.states

-- The number of services whose wait is over.
abbrev pub start_count : ℕ → RsRecord → ℕ
start_count tick s = service_count (is_sought (sought.Rested tick)) s.settings.services s.states

-- Whether the service's instance missed its heartbeat.
abbrev pub is_missed : ℕ → RsRecord → ℕ → Running → Bool
is_missed tick s i r = is_sought (sought.Missed tick) (service_at s i) (Up r)

-- ---- the state after them

-- Whether the service was started at the tick: its generation is new, and its failures still count.
pub record IsStarted (tick : ℕ) (s t : RsRecord) (p : Pause) (r : Running) : Type 0 where
  pub newer : s.next ≤ r.endpoint.generation
  pub used : r.endpoint.generation < t.next
  pub since : r.since ≡ tick
  pub failures : r.failures ≡ p.failures

-- The state after the reports, for each service of the settings.
pub record IsSettledState (tick : ℕ) (s t : RsRecord) : Type 0 where
  pub settings : t.settings ≡ s.settings
  pub at : t.tick ≡ tick
  -- no heartbeat is missed, no ping is due, and no wait is over
  pub quiet : (i : ℕ) → i < length s.settings.services → is_due tick (service_at s i) (state_at t i) ≡ false
  -- each wait ends at a later tick
  pub later : (i : ℕ) (p : Pause) → i < length s.settings.services → state_at t i ≡ Waiting p → tick < p.until
  -- a generation was taken for each wait that was over, and no other
  pub starts : t.next ≡ s.next + start_count tick s
  -- a service whose wait was over runs again
  pub started : (i : ℕ) (p : Pause) → i < length s.settings.services → state_at s i ≡ Waiting p → p.until ≤ tick →
      (r : Running) × (state_at t i ≡ Up r) × IsStarted tick s t p r
  -- any other wait lasts
  pub waits : (i : ℕ) (p : Pause) → state_at s i ≡ Waiting p → tick < p.until → state_at t i ≡ Waiting p
  -- a service whose heartbeat was missed failed once more: it waits, or was given up above its limit
  pub failures : (i : ℕ) (r : Running) → i < length s.settings.services → state_at s i ≡ Up r → is_missed tick s i r ≡ true →
      state_at t i ≡ failed (service_at s i).limit tick (failures_left (service_at s i).forget tick r + 1)
  -- any other instance runs on; only its last ping may be another
  pub kept : (i : ℕ) (r : Running) → state_at s i ≡ Up r → is_missed tick s i r ≡ false →
      (q : Running) × (state_at t i ≡ Up q) × (q ≡ record r { ping = q.ping })
  -- no other service changes
  pub down : (i : ℕ) → state_at s i ≡ Down → state_at t i ≡ Down
  pub given_up : (i : ℕ) → state_at s i ≡ GaveUp → state_at t i ≡ GaveUp

-- A law: a tick that is reported until RS has no action has as many reports with actions as services for which something
-- was due, at most as many as there are services, and RS is settled after them.
abbrev pub TicksSettle : Type 0
TicksSettle = (s t : RsRecord) (tick : ℕ) (steps : List (List Action)) → ReportsSettle tick s steps t →
    (length steps ≡ due_count tick s) × (length steps ≤ length s.settings.services) × IsSettledState tick s t

-- A law: a tick that isn't before the last one can be settled, if RS has a slot for each service and a generation for each
-- start that is due.
abbrev pub TicksCanSettle : Type 0
TicksCanSettle = (s : RsRecord) (tick : ℕ) → s.tick ≤ tick → tick ≤ 2 ^ 62 → length s.states ≡ length s.settings.services →
    length s.settings.services ≤ s.settings.slots → s.next + start_count tick s ≤ 2097152 →
    (steps : List (List Action)) × (t : RsRecord) × ReportsSettle tick s steps t

-- ---- recovery

-- Whether the service's instance fails in the step, and the service is not given up.
pub record IsFailure (s : RsRecord) (event : Event) (tick : ℕ) (actions : List Action) (u : RsRecord) (i : ℕ) (r : Running) (p : Pause)
    : Type 0 where
  pub ran : state_at s i ≡ Up r
  pub step : RsStep s event tick actions u
  pub waits : state_at u i ≡ Waiting p

-- A law: a pause is 1 to 32 ticks long.
abbrev pub PausesAreShort : Type 0
PausesAreShort = (s u : RsRecord) (event : Event) (tick : ℕ) (actions : List Action) (i : ℕ) (r : Running) (p : Pause) →
    IsFailure s event tick actions u i r p → (tick < p.until) × (p.until ≤ tick + 32)

-- A law: a service whose instance failed, and which still waits after any later events, runs at a newer generation once a
-- tick settles at which its pause is over.
abbrev pub ServicesRecover : Type 0
ServicesRecover =
    (s u m t : RsRecord) (event : Event) (fell tick : ℕ) (actions : List Action) (i : ℕ) (r : Running) (p : Pause)
    (between steps : List (List Action)) →
    i < length m.settings.services → r.endpoint.generation < s.next →
    IsFailure s event fell actions u i r p → RsRun u between m → state_at m i ≡ Waiting p → p.until ≤ tick → ReportsSettle tick m steps t →
    (q : Running) × (state_at t i ≡ Up q) × (r.endpoint.generation < q.endpoint.generation)
