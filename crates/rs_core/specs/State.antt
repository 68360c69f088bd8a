-- What RS knows: about each service, and about its slots and generations.
use Rattle.std.specs.Prelude.{ℕ, Bool, true, false, List, [], None, count_by, slice_index_or, refl}
use Rattle.std.specs.Coded.{Coded, code_by, coded×, coded_ℕ, coded_list}
use Rattle.rs_settings.specs.Settings.{SettingsRecord}
use Rattle.rs_settings.specs.declared.service.Service.{Service}
use Rattle.rs_settings.specs.declared.class.Class.TheVariants.{Server}
use Rattle.rs_core.specs.declared.state.State.{State}
use Rattle.rs_core.specs.declared.state.State.TheVariants.{Down, Up, Waiting, GaveUp}
use Rattle.rs_core.specs.Slots.{SlotsRecord, slots_code}

-- The state of RS: the settings, a state for each of their services in order, the last tick, the generation of the next
-- start, and the slots.
pub record RsRecord : Type 0 where
  pub settings : SettingsRecord
  pub states : List State
  pub tick : ℕ
  pub next : ℕ
  pub slots : SlotsRecord

-- The record of these parts.
abbrev pub rs_of : SettingsRecord → List State → ℕ → ℕ → SlotsRecord → RsRecord
rs_of settings states tick next slots = record { settings = settings; states = states; tick = tick; next = next; slots = slots }

-- The code of RS: the tuple of its parts.
abbrev pub rs_code : Coded SettingsRecord → Coded State → Coded RsRecord
rs_code settings state =
    code_by
    (SettingsRecord × (List State × (ℕ × (ℕ × SlotsRecord))))
    (coded× settings (coded× (coded_list state) (coded× coded_ℕ (coded× coded_ℕ slots_code))))
    (λ s. (s.settings, (s.states, (s.tick, (s.next, s.slots)))))
    (λ p. rs_of p.0 p.1.0 p.1.1.0 p.1.1.1.0 p.1.1.1.1)
    (λ _. refl)

-- The state of the service with this index.
abbrev pub state_at : RsRecord → ℕ → State
state_at s i = slice_index_or s.states i Down

-- A placeholder for a service past the end.
abbrev pub no_service : Service
no_service = record {
  label = [];
  class = Server;
  unit = None;
  period = 0;
  limit = 0;
  publishes = [];
  complains = None;
  connects = None;
  forget = 0;
  startup = 0;
}

-- The settings' service with this index.
abbrev pub service_at : RsRecord → ℕ → Service
service_at s i = slice_index_or s.settings.services i no_service

-- Whether an instance of the service runs.
abbrev pub is_up : State → Bool
is_up (Up r) = true
is_up (Waiting p) = false
is_up Down = false
is_up GaveUp = false

-- How many services are up.
abbrev pub up_count : List State → ℕ
up_count states = count_by is_up states
