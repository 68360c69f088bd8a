-- One step of the restart machine: an event that no fault applies to.
use Rattle.std.specs.Prelude.{◌≡◌, ℕ, List, [], Option, Some, None, Ok, slice_set}
use Rattle.rs_core.specs.declared.action.Action.{Action}
use Rattle.rs_core.specs.declared.event.Event.{Event}
use Rattle.rs_core.specs.declared.deed.Task.{Task}
use Rattle.rs_core.specs.State.{RsRecord, rs_of, state_at, service_at}
use Rattle.rs_core.specs.Machine.{asked, state_after, actions_of, next_after, slots_after}
use Rattle.rs_core.specs.Judging.{refusal}

-- The state of RS after the task was done to its service, and to no other.
abbrev pub done_to : RsRecord → ℕ → Task → RsRecord
done_to s tick p =
    rs_of s.settings
    (slice_set s.states p.place (state_after s tick (service_at s p.place) (state_at s p.place) p.deed))
    tick
    (next_after s (state_at s p.place) p.deed)
    (slots_after s (state_at s p.place) p.deed)

-- Whether the deed is done.
pub record IsDone (s : RsRecord) (tick : ℕ) (p : Task) (actions : List Action) (t : RsRecord) : Type 0 where
  pub done : actions ≡ actions_of s (service_at s p.place) (state_at s p.place) p.deed
  pub after : t ≡ done_to s tick p

-- Whether nothing is due, and only the tick changes.
pub record IsIdle (s : RsRecord) (tick : ℕ) (actions : List Action) (t : RsRecord) : Type 0 where
  pub done : actions ≡ []
  pub after : t ≡ record s { tick = tick }

-- Whether the task is done, or there is none and nothing happens.
abbrev pub IsCarriedOut : RsRecord → ℕ → Option Task → List Action → RsRecord → Type 0
IsCarriedOut s tick None actions t = IsIdle s tick actions t
IsCarriedOut s tick (Some p) actions t = IsDone s tick p actions t

-- Whether no fault applies to the event, and what it calls for is done.
abbrev pub RsStep : RsRecord → Event → ℕ → List Action → RsRecord → Type 0
RsStep s event tick actions t =
    (p : Option Task) × (refusal s event tick ≡ None) × (asked s event tick ≡ Ok p) × IsCarriedOut s tick p actions t
