-- Plans: what RS does at an event, found before anything changes.
use Rattle.std.specs.Prelude.{◌≡◌, ◌<◌, ◌≤◌, ◌^◌, ℕ, Bool, length, Option, None, Ok, IfSome}
use Rattle.rs_core.specs.declared.event.Event.{Event}
use Rattle.rs_core.specs.declared.plan.Plan.{Plan}
use Rattle.rs_core.specs.State.{RsRecord}
use Rattle.rs_core.specs.Machine.{asked}
use Rattle.rs_core.specs.Judging.{refusal, asks, has_actions, takes_generation, lack_for}
use Rattle.rs_core.specs.Reading.{given_up_in}

-- Whether the plan has actions.
abbrev pub acts : Plan → Bool
acts p = asks has_actions (Ok p.task)

-- Whether the plan starts an instance.
abbrev pub starts_instance : Plan → Bool
starts_instance p = asks takes_generation (Ok p.task)

-- The service that the plan gives up.
abbrev pub given_up_by : RsRecord → Plan → Option ℕ
given_up_by s p = given_up_in s p.tick (Ok p.task)

-- Whether no fault applies to the event, and the plan is what it calls for.
pub record IsPlanOf (s : RsRecord) (event : Event) (tick : ℕ) (p : Plan) : Type 0 where
  pub allowed : refusal s event tick ≡ None
  pub called : asked s event tick ≡ Ok p.task
  pub at : p.tick ≡ tick

-- Whether the plan can be carried out in this state: its service exists, and a generation and a slot are left for its deed.
pub record PlanFits (s : RsRecord) (p : Plan) : Type 0 where
  pub tick : p.tick ≤ 2 ^ 62
  pub within : IfSome p.task (λ t. t.place < length s.states)
  pub room : IfSome p.task (λ t. lack_for s t.deed ≡ None)
