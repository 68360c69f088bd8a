-- Renewal: RS continues with other settings. Whatever happens to a service is decided by its label.
use Rattle.std.specs.Prelude.{◌≡◌, ◌⊎◌, ℕ, ◌+◌, nat_lt, Bool, true, false, not, ◌&&◌, map}
use Rattle.std.specs.Prelude.{List, [], ◌∷◌, Option, Some, None, option_map, unwrap_or, if◌then◌else◌}
use Rattle.std.specs.List.{list_any, flat_map}
use Rattle.ds_entry.specs.SingleNumbered.{IsSingleNumbered}
use Rattle.history.specs.History.{Path}
use Rattle.rs_settings.specs.Values.{is_same}
use Rattle.rs_settings.specs.Settings.{SettingsRecord}
use Rattle.rs_settings.specs.declared.service.Service.{Service}
use Rattle.rs_core.specs.declared.action.Action.{Action}
use Rattle.rs_core.specs.declared.fault.RenewFault.{RenewFault}
use Rattle.rs_core.specs.declared.fault.RenewFault.TheVariants.{FewerSlots, OutOfRange, StillUp}
use Rattle.rs_core.specs.declared.state.State.{State}
use Rattle.rs_core.specs.declared.state.State.TheVariants.{Down, Up, Waiting, GaveUp}
use Rattle.rs_core.specs.State.{RsRecord, state_at}
use Rattle.rs_core.specs.Says.{place_of_label}
use Rattle.rs_core.specs.Run.{RsActs, AreRising, starts, offers}

-- ---- the state after it

-- The state of the service with the label; Down, if there is no such service.
abbrev pub state_of_label : RsRecord → List ℕ → State
state_of_label s label = unwrap_or (option_map (state_at s) (place_of_label s label)) Down

-- RS with other settings: each of their services has the state that its label had. The tick, the next generation and the
-- slots are unchanged.
abbrev pub renewed : RsRecord → SettingsRecord → RsRecord
renewed s settings = record s { settings = settings; states = map (λ service. state_of_label s service.label) settings.services }

-- ---- the faults against it

-- Whether the service runs, or waits for its next start.
abbrev pub is_begun : State → Bool
is_begun (Up r) = true
is_begun (Waiting p) = true
is_begun Down = false
is_begun GaveUp = false

-- Whether one of the services has the label.
abbrev pub has_label : List Service → List ℕ → Bool
has_label services label = list_any (λ service. is_same service.label label) services

-- Whether the service runs or waits, and none of the new services has its label.
abbrev pub is_left_out : List Service → Service → State → Bool
is_left_out new service state = is_begun state && not (has_label new service.label)

-- The index of the first service, counted from `i`, that is left out so.
abbrev pub first_left_out : List Service → ℕ → List Service → List State → Option ℕ
first_left_out new i (service ∷ services) (state ∷ states) =
    if is_left_out new service state then Some i else first_left_out new (i + 1) services states
first_left_out new i _ _ = None

-- The first fault against settings: fewer slots than before, a last slot above 1023, a service that they lack and that
-- still runs or waits.
abbrev pub renewal_fault : RsRecord → SettingsRecord → Option RenewFault
renewal_fault s settings =
    if nat_lt settings.slots s.settings.slots then Some FewerSlots
    else if nat_lt 1024 (s.slots.first + settings.slots) then Some OutOfRange
    else option_map StillUp (first_left_out settings.services 0 s.settings.services s.states)

-- ---- runs across it

-- Whether other settings are taken, without any action.
abbrev pub IsRenewal : RsRecord → List Action → RsRecord → Type 0
IsRenewal s actions t =
    (settings : SettingsRecord) × (renewal_fault s settings ≡ None) × (actions ≡ []) × (t ≡ renewed s settings)

-- A life: steps and renewals in order, each with its actions.
abbrev pub RsLife : RsRecord → List (List Action) → RsRecord → Type 0
RsLife = Path (λ s actions t. RsActs s actions t ⊎ IsRenewal s actions t)

-- A law: each start's generation is above those of all earlier starts, across renewals too.
abbrev pub StartsRiseThroughRenewals : Type 0
StartsRiseThroughRenewals =
    (s t : RsRecord) (steps : List (List Action)) → RsLife s steps t → AreRising s.next (flat_map starts steps) t.next

-- A law: the label changes of a life are single-numbered; no two of them contradict each other.
abbrev pub LabelsStaySingleNumbered : Type 0
LabelsStaySingleNumbered = (s t : RsRecord) (steps : List (List Action)) → RsLife s steps t → IsSingleNumbered (flat_map offers steps)
