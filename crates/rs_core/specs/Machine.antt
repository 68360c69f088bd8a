-- The restart machine: what an event calls for, what is then done, and the state after it.
use Rattle.std.specs.Prelude.{ℕ, ◌+◌, ◌-◌, ◌^◌, min, true, ◌&&◌, nat_le, nat_lt}
use Rattle.std.specs.Prelude.{List, [], ◌∷◌, ◌++◌, Option, Some, None, option_map, Result, Ok, Err, if◌then◌else◌}
use Rattle.std.specs.Option.{option_or}
use Rattle.ds_names.specs.Endpoint.{EndpointRecord, endpoint_of}
use Rattle.rs_settings.specs.declared.service.Service.{Service}
use Rattle.rs_core.specs.declared.action.Action.{Action}
use Rattle.rs_core.specs.declared.action.Action.TheVariants as actions
use Rattle.rs_core.specs.declared.event.Event.{Event}
use Rattle.rs_core.specs.declared.event.Event.TheVariants as events
use Rattle.rs_core.specs.declared.fault.RsFault.{RsFault}
use Rattle.rs_core.specs.declared.fault.RsFault.TheVariants.{UnknownLabel, OldEndpoint}
use Rattle.rs_core.specs.declared.state.State.{State}
use Rattle.rs_core.specs.declared.state.State.TheVariants.{Down, Up, Waiting, GaveUp}
use Rattle.rs_core.specs.declared.state.Running.{Running}
use Rattle.rs_core.specs.declared.finding.Sought.TheVariants as sought
use Rattle.rs_core.specs.declared.deed.Deed.{Deed}
use Rattle.rs_core.specs.declared.deed.Deed.TheVariants.{Begin, Resume, Halt, Replace, Lose, Forget, Hear, Ping}
use Rattle.rs_core.specs.declared.deed.Task.{Task}
use Rattle.rs_core.specs.Action.{start_actions, stop_actions}
use Rattle.rs_core.specs.Slots.{SlotsRecord, next_key, with_next_taken, with_freed}
use Rattle.rs_core.specs.State.{RsRecord, state_at}
use Rattle.rs_core.specs.Table.{on_up, on_stop, on_refresh, on_restart, on_death}
use Rattle.rs_core.specs.Finding.{service_place}

-- ---- what is called for

-- The deed, for the service with this index.
abbrev pub task : Deed → ℕ → Task
task deed place = record { place = place; deed = deed }

-- The table's answer, for the service with this index.
abbrev pub planned : ℕ → Result Deed RsFault → Result (Option Task) RsFault
planned i (Ok deed) = Ok (Some (task deed i))
planned i (Err fault) = Err fault

-- The table's answer for the service with the label.
abbrev pub of_label : RsRecord → (State → Result Deed RsFault) → Option ℕ → Result (Option Task) RsFault
of_label s table None = Err UnknownLabel
of_label s table (Some i) = planned i (table (state_at s i))

-- The deed for the service that is up under the endpoint.
abbrev pub of_instance : Deed → Option ℕ → Result (Option Task) RsFault
of_instance deed None = Err OldEndpoint
of_instance deed (Some i) = Ok (Some (task deed i))

-- The first of these that is due: a missed heartbeat, which is a death of cause 4; a ping; a start after a wait.
abbrev pub due : RsRecord → ℕ → Option Task
due s tick =
    option_or (option_map (task (Lose true)) (service_place s (sought.Missed tick)))
    (option_or (option_map (task Ping) (service_place s (sought.Silent tick)))
    (option_map (task Resume) (service_place s (sought.Rested tick))))

-- What the event calls for: a deed, nothing, or the table's fault.
abbrev pub asked : RsRecord → Event → ℕ → Result (Option Task) RsFault
asked s (events.Up label) tick = of_label s on_up (service_place s (sought.Label label))
asked s (events.Stop label) tick = of_label s on_stop (service_place s (sought.Label label))
asked s (events.Refresh label) tick = of_label s on_refresh (service_place s (sought.Label label))
asked s (events.Restart label) tick = of_label s on_restart (service_place s (sought.Label label))
asked s (events.Death endpoint cause) tick = of_instance (on_death cause) (service_place s (sought.Instance endpoint))
asked s (events.Beat endpoint) tick = of_instance Hear (service_place s (sought.Instance endpoint))
asked s events.Tick tick = Ok (due s tick)

-- ---- what is done

-- The ticks to wait after failure k in a row: 1, 2, 4, 8, 16, and 32 from the sixth on.
abbrev pub pause : ℕ → ℕ
pause k = min (2 ^ (k - 1)) 32

-- The state after failure k in a row.
abbrev pub failed : ℕ → ℕ → ℕ → State
failed limit tick k = if nat_lt limit k then GaveUp else Waiting (record { until = tick + pause k; failures = k })

-- The failures in a row; 0 for a service that is down or was given up.
abbrev pub failures_of : State → ℕ
failures_of (Up r) = r.failures
failures_of (Waiting p) = p.failures
failures_of Down = 0
failures_of GaveUp = 0

-- The failures in a row that still count when the instance ends: none, if it was up for `forget` ticks or more. 0 is never.
abbrev pub failures_left : ℕ → ℕ → Running → ℕ
failures_left forget tick r = if nat_lt 0 forget && nat_le forget (tick - r.since) then 0 else r.failures

-- The state of an instance that starts now. Its first heartbeat period counts from the end of its time to start on.
abbrev pub started_at : EndpointRecord → ℕ → ℕ → ℕ → State
started_at endpoint tick startup failures =
    Up (record { endpoint = endpoint; since = tick; beat = tick + startup; ping = tick; failures = failures })

-- The endpoint of a start: the next generation, in the next slot.
abbrev pub new_endpoint : RsRecord → EndpointRecord
new_endpoint s = endpoint_of s.next (s.slots.first + next_key s.slots)

-- The endpoint of a start after a stop: the next generation, in the slot that the stop freed.
abbrev pub same_slot : RsRecord → Running → EndpointRecord
same_slot s r = endpoint_of s.next r.endpoint.slot

-- The state of a service after the deed. A deed that doesn't fit its state, which no event calls for, changes nothing.
abbrev pub state_after : RsRecord → ℕ → Service → State → Deed → State
state_after s tick service Down Begin = started_at (new_endpoint s) tick service.startup 0
state_after s tick service GaveUp Begin = started_at (new_endpoint s) tick service.startup 0
state_after s tick service (Waiting p) Resume = started_at (new_endpoint s) tick service.startup p.failures
state_after s tick service (Up r) Replace = started_at (same_slot s r) tick service.startup (failures_left service.forget tick r)
state_after s tick service (Up r) (Lose kill) = failed service.limit tick (failures_left service.forget tick r + 1)
state_after s tick service (Up r) Hear = Up (record r { beat = tick })
state_after s tick service (Up r) Ping = Up (record r { ping = tick })
state_after s tick service (Up r) Halt = Down
state_after s tick service (Waiting p) Forget = Down
state_after s tick service state _ = state

-- The actions of the deed.
abbrev pub actions_of : RsRecord → Service → State → Deed → List Action
actions_of s service Down Begin = start_actions service.label (new_endpoint s)
actions_of s service GaveUp Begin = start_actions service.label (new_endpoint s)
actions_of s service (Waiting p) Resume = start_actions service.label (new_endpoint s)
actions_of s service (Up r) Replace = stop_actions true service.label r.endpoint ++ start_actions service.label (same_slot s r)
actions_of s service (Up r) (Lose kill) = stop_actions kill service.label r.endpoint
actions_of s service (Up r) Ping = actions.Ping r.endpoint ∷ []
actions_of s service (Up r) Halt = stop_actions true service.label r.endpoint
actions_of s service state _ = []

-- The next generation after the deed. A start takes one.
abbrev pub next_after : RsRecord → State → Deed → ℕ
next_after s Down Begin = s.next + 1
next_after s GaveUp Begin = s.next + 1
next_after s (Waiting p) Resume = s.next + 1
next_after s (Up r) Replace = s.next + 1
next_after s state _ = s.next

-- The slots after the deed. A start takes the next slot, a stop frees its instance's, and a start after a stop takes
-- that one again.
abbrev pub slots_after : RsRecord → State → Deed → SlotsRecord
slots_after s Down Begin = with_next_taken s.slots
slots_after s GaveUp Begin = with_next_taken s.slots
slots_after s (Waiting p) Resume = with_next_taken s.slots
slots_after s (Up r) (Lose kill) = with_freed s.slots (r.endpoint.slot - s.slots.first)
slots_after s (Up r) Halt = with_freed s.slots (r.endpoint.slot - s.slots.first)
slots_after s state _ = s.slots
