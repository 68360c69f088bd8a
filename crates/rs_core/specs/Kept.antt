-- What holds for RS's states, slots and generations at any time.
use Rattle.std.specs.Prelude.{◌≡◌, ◌≢◌, ◌⊎◌, ℕ, ◌+◌, ◌^◌, ◌<◌, ◌≤◌, ◌==◌, nat_lt, Bool, false, List}
use Rattle.std.specs.Prelude.{length, slice_index_or, count_by, if◌then◌else◌}
use Rattle.ds_names.specs.Endpoint.{IsEndpoint}
use Rattle.rs_settings.specs.Settings.{SettingsRecord, IsSettings}
use Rattle.rs_core.specs.declared.state.State.{State}
use Rattle.rs_core.specs.declared.state.State.TheVariants.{Down, Up, Waiting, GaveUp}
use Rattle.rs_core.specs.declared.state.Running.{Running}
use Rattle.rs_core.specs.Slots.{SlotsRecord}
use Rattle.rs_core.specs.State.{up_count}

-- Whether the instance may run: its generation was used, and its slot isn't below RS's first one.
pub record IsRunning (first next : ℕ) (r : Running) : Type 0 where
  pub valid : IsEndpoint r.endpoint
  pub given : 0 < r.endpoint.generation
  pub below : r.endpoint.generation < next
  pub slot : first ≤ r.endpoint.slot
  pub failures : r.failures ≤ 1000

-- Whether the parts of a service's state are in their ranges.
abbrev pub IsState : ℕ → ℕ → State → Type 0
IsState first next (Up r) = IsRunning first next r
IsState first next (Waiting p) = p.failures ≤ 1000
IsState first next Down = Unit {0}
IsState first next GaveUp = Unit {0}

-- Whether an instance of the service runs in the slot with the key.
abbrev pub is_at : ℕ → ℕ → State → Bool
is_at first key (Up r) = r.endpoint.slot == first + key
is_at first key (Waiting p) = false
is_at first key Down = false
is_at first key GaveUp = false

-- The number of times that a key was taken first: 1 for a key that was ever taken, 0 for any other.
abbrev pub times_taken : ℕ → ℕ → ℕ
times_taken given key = if nat_lt key given then 1 else 0

-- Whether the slots fit the states: no slot is lost, and none has two instances.
pub record SlotsFit (slots : SlotsRecord) (states : List State) : Type 0 where
  -- a key that was ever taken is either free or has one instance; no other key is
  pub once : (key : ℕ) → count_by (λ k. k == key) slots.freed + count_by (is_at slots.first key) states ≡ times_taken slots.taken key
  -- the keys that were taken and not freed are as many as the services that are up
  pub taken : length slots.freed + up_count states ≡ slots.taken
  -- no more keys were ever taken than services may run at once
  pub few : slots.taken ≤ 64

-- Whether the generation of the first start isn't 1 to 2097152, or the slots don't lie within 16 to 1023.
abbrev pub IsOutOfRange : ℕ → ℕ → ℕ → Type 0
IsOutOfRange slots next first = ((next < 1) ⊎ (2097152 < next)) ⊎ ((first < 16) ⊎ (1024 < first + slots))

-- Whether the settings, the tick and the next generation are in their ranges, each service has a state in its range,
-- and the slots fit the states and the settings.
pub record IsRs (settings : SettingsRecord) (states : List State) (tick next : ℕ) (slots : SlotsRecord) : Type 0 where
  pub checked : IsSettings settings
  pub count : length states ≡ length settings.services
  pub worn : tick ≤ 2 ^ 62
  pub some : 1 ≤ next
  pub spent : next ≤ 2097152
  pub each : (i : ℕ) → i < length states → IsState slots.first next (slice_index_or states i Down)
  pub fit : SlotsFit slots states
  pub own : slots.taken ≤ settings.slots
  -- RS's slots are above the system's own, and within an endpoint's range
  pub low : 16 ≤ slots.first
  pub high : slots.first + settings.slots ≤ 1024

-- Whether no instance of the service runs in the slot with the key.
abbrev pub IsNotAt : ℕ → ℕ → State → Type 0
IsNotAt first key (Up r) = r.endpoint.slot ≢ first + key
IsNotAt first key (Waiting p) = Unit {0}
IsNotAt first key Down = Unit {0}
IsNotAt first key GaveUp = Unit {0}

-- Whether the two services, if both run, run in different slots.
abbrev pub HaveTwoSlots : State → State → Type 0
HaveTwoSlots (Up r) (Up q) = r.endpoint.slot ≢ q.endpoint.slot
HaveTwoSlots _ _ = Unit {0}

-- Whether the service runs no instance.
abbrev pub IsAtRest : State → Type 0
IsAtRest (Up r) = ⊥
IsAtRest (Waiting p) = p.failures ≤ 1000
IsAtRest Down = Unit {0}
IsAtRest GaveUp = Unit {0}
