-- RS's state after each deed, and the longer lists of actions.
use Rattle.std.specs.Prelude.{ℕ, ◌+◌, ◌-◌, true, List, ◌++◌, slice_set}
use Rattle.rs_core.specs.declared.action.Action.{Action}
use Rattle.rs_core.specs.declared.state.State.{State}
use Rattle.rs_core.specs.declared.state.Running.{Running}
use Rattle.rs_core.specs.Action.{start_actions, stop_actions}
use Rattle.rs_core.specs.Machine.{started_at, failed, failures_left, new_endpoint, same_slot}
use Rattle.rs_core.specs.Slots.{with_next_taken, with_freed}
use Rattle.rs_core.specs.State.{RsRecord, rs_of, service_at}

-- The failures in a row that still count when its instance ends.
abbrev pub forgetting : RsRecord → ℕ → ℕ → Running → ℕ
forgetting s place tick running = failures_left (service_at s place).forget tick running

-- The state after the service with this index was started.
abbrev pub after_start : RsRecord → ℕ → ℕ → ℕ → RsRecord
after_start s place tick failures =
    rs_of s.settings
    (slice_set s.states place (started_at (new_endpoint s) tick (service_at s place).startup failures))
    tick
    (s.next + 1)
    (with_next_taken s.slots)

-- The state after its instance was stopped, which leaves the service in the state `after`.
abbrev pub after_stop : RsRecord → ℕ → ℕ → Running → State → RsRecord
after_stop s place tick running after =
    rs_of s.settings (slice_set s.states place after) tick s.next (with_freed s.slots (running.endpoint.slot - s.slots.first))

-- The state after its instance was stopped and another was started in the same slot.
abbrev pub after_replacement : RsRecord → ℕ → ℕ → Running → RsRecord
after_replacement s place tick running =
    rs_of s.settings
    (slice_set s.states place (started_at (same_slot s running) tick (service_at s place).startup (forgetting s place tick running)))
    tick
    (s.next + 1)
    s.slots

-- The state after the service got this state, with no slot taken or freed.
abbrev pub after_note : RsRecord → ℕ → ℕ → State → RsRecord
after_note s place tick state = rs_of s.settings (slice_set s.states place state) tick s.next s.slots

-- The service's state after a failure of its instance.
abbrev pub failing : RsRecord → ℕ → ℕ → Running → State
failing s place tick running = failed (service_at s place).limit tick (forgetting s place tick running + 1)

-- The actions of stopping its instance and starting another in the same slot.
abbrev pub replacing : RsRecord → ℕ → Running → List Action
replacing s place running =
    stop_actions true (service_at s place).label running.endpoint ++ start_actions (service_at s place).label (same_slot s running)
