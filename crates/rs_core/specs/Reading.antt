-- What callers read from RS between events.
use Rattle.std.specs.Prelude.{◌≡◌, ◌≢◌, ◌↔◌, ℕ, ◌+◌, ◌≤◌, ◌^◌, Bool, true, false, ◌||◌, nat_le, nat_lt}
use Rattle.std.specs.Prelude.{List, [], ◌∷◌, Option, Some, None, is_some, Result, Ok, if◌then◌else◌}
use Rattle.ds_names.specs.Endpoint.{EndpointRecord}
use Rattle.ds_names.specs.declared.key.Key.{Key}
use Rattle.rs_settings.specs.Dealing.{is_declared}
use Rattle.rs_settings.specs.declared.service.Service.{Service}
use Rattle.rs_core.specs.declared.action.Action.{Action}
use Rattle.rs_core.specs.declared.deed.Deed.{Deed}
use Rattle.rs_core.specs.declared.deed.Deed.TheVariants.{Lose}
use Rattle.rs_core.specs.declared.deed.Task.{Task}
use Rattle.rs_core.specs.declared.event.Event.{Event}
use Rattle.rs_core.specs.declared.event.Event.TheVariants.{Tick}
use Rattle.rs_core.specs.declared.fault.RsFault.{RsFault}
use Rattle.rs_core.specs.declared.finding.Sought.TheVariants as sought
use Rattle.rs_core.specs.declared.state.State.{State}
use Rattle.rs_core.specs.declared.state.State.TheVariants.{Up, GaveUp}
use Rattle.rs_core.specs.State.{RsRecord, state_at, service_at}
use Rattle.rs_core.specs.Finding.{is_sought, service_place}
use Rattle.rs_core.specs.Machine.{asked, due, failures_left}
use Rattle.rs_core.specs.Step.{RsStep}

-- ---- what is due

-- Whether, at the tick, a heartbeat of the service is missed, a ping is due, or its wait is over.
abbrev pub is_due : ℕ → Service → State → Bool
is_due tick service state =
    is_sought (sought.Missed tick) service state ||
    (is_sought (sought.Silent tick) service state || is_sought (sought.Rested tick) service state)

-- Whether something is due for any service.
abbrev pub any_due : ℕ → List Service → List State → Bool
any_due tick (service ∷ services) (state ∷ states) = is_due tick service state || any_due tick services states
any_due tick _ _ = false

-- Whether the tick is this first one or later. Without a first one, no tick is.
abbrev pub is_from : Option ℕ → ℕ → Bool
is_from None tick = false
is_from (Some first) tick = nat_le first tick

-- Whether the test holds from this first tick on, and at no earlier one.
abbrev pub IsFrom : (ℕ → Bool) → Option ℕ → Type 0
IsFrom test first = (tick : ℕ) → tick ≤ 2 ^ 62 → test tick ≡ is_from first tick

-- A law: a tick that isn't refused has actions exactly if something is due.
abbrev pub TicksActWhenDue : Type 0
TicksActWhenDue =
    (s t : RsRecord) (tick : ℕ) (actions : List Action) → RsStep s Tick tick actions t → (is_some (due s tick) ≡ true) ↔ (actions ≢ [])

-- ---- a service that is given up

-- Whether the deed makes RS give up the service: its instance fails once more than its limit.
abbrev pub gives_up : ℕ → Deed → Service → State → Bool
gives_up tick (Lose kill) service (Up r) = nat_lt service.limit (failures_left service.forget tick r + 1)
gives_up tick _ _ _ = false

-- The service that is given up by what an event calls for.
abbrev pub given_up_in : RsRecord → ℕ → Result (Option Task) RsFault → Option ℕ
given_up_in s tick (Ok (Some p)) = if gives_up tick p.deed (service_at s p.place) (state_at s p.place) then Some p.place else None
given_up_in s tick _ = None

-- The index of the service that RS gives up at the event, if no fault applies to the event.
abbrev pub given_up : RsRecord → Event → ℕ → Option ℕ
given_up s event tick = given_up_in s tick (asked s event tick)

-- A law: a step gives up exactly this service.
abbrev pub StepsGiveUp : Type 0
StepsGiveUp = (s t : RsRecord) (event : Event) (tick : ℕ) (actions : List Action) → RsStep s event tick actions t →
    (i : ℕ) → (given_up s event tick ≡ Some i) ↔ ((state_at t i ≡ GaveUp) × (state_at s i ≢ GaveUp))

-- ---- instances

-- The index of the service that runs under the endpoint.
abbrev pub place_of_instance : RsRecord → EndpointRecord → Option ℕ
place_of_instance s endpoint = service_place s (sought.Instance endpoint)

-- Whether the one service may deal with the other, by a rule of the settings. If there is no such service, none may.
abbrev pub deals_at : (Service → Service → Bool) → RsRecord → Option ℕ → Option ℕ → Bool
deals_at may s (Some i) (Some j) = may (service_at s i) (service_at s j)
deals_at may s _ _ = false

-- Whether the service with this index declares the key.
abbrev pub declares_at : RsRecord → Option ℕ → Key → Bool
declares_at s None key = false
declares_at s (Some i) key = is_declared (service_at s i) key
