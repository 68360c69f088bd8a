-- The premises of the laws of settling and recovery. Without any one of them, a law is false. An example meets them all.
use Rattle.std.specs.Prelude.{◌≡◌, ℕ, ◌+◌, ◌^◌, ◌<◌, ◌≤◌, List, [], ◌∷◌, ◌++◌, length}
use Rattle.rs_core.specs.declared.action.Action.{Action}
use Rattle.rs_core.specs.declared.event.Event.{Event}
use Rattle.rs_core.specs.declared.state.Pause.{Pause}
use Rattle.rs_core.specs.declared.state.Running.{Running}
use Rattle.rs_core.specs.declared.state.State.TheVariants.{Up, Waiting}
use Rattle.rs_core.specs.State.{RsRecord, state_at}
use Rattle.rs_core.specs.Run.{RsRun}
use Rattle.rs_core.specs.Settling.{Ticks, AllAct, ReportsSettle, start_count, IsFailure}

-- Whether an instance of the service runs.
abbrev pub RunsInstance : RsRecord → ℕ → Type 0
RunsInstance t i = (r : Running) × (state_at t i ≡ Up r)

-- The premises of settling. Each report but the last has actions, and the last one has none. The wait is over, and it is
-- that of a service of the settings.
pub record SettlingNeeds : Type 0 where
  pub acted : ¬ ((s t : RsRecord) (tick : ℕ) (steps : List (List Action)) → Ticks tick s (steps ++ [] ∷ []) t →
      length steps ≤ length s.settings.services)
  pub ended : ¬ ((s t : RsRecord) (tick i : ℕ) (p : Pause) (steps : List (List Action)) → AllAct steps → Ticks tick s steps t →
      i < length s.settings.services → state_at s i ≡ Waiting p → p.until ≤ tick → RunsInstance t i)
  pub over : ¬ ((s t : RsRecord) (tick i : ℕ) (p : Pause) (steps : List (List Action)) → ReportsSettle tick s steps t →
      i < length s.settings.services → state_at s i ≡ Waiting p → RunsInstance t i)
  pub within : ¬ ((s t : RsRecord) (tick i : ℕ) (p : Pause) (steps : List (List Action)) → ReportsSettle tick s steps t →
      state_at s i ≡ Waiting p → p.until ≤ tick → RunsInstance t i)

-- Whether some reports settle the tick.
abbrev pub CanSettle : ℕ → RsRecord → Type 0
CanSettle tick s = (steps : List (List Action)) × (t : RsRecord) × ReportsSettle tick s steps t

-- The premises of such reports. The tick isn't before the last one, and isn't above the greatest. Each service has a state
-- and a slot, and each start that is due has a generation.
pub record ExistenceNeeds : Type 0 where
  pub later : ¬ ((s : RsRecord) (tick : ℕ) → tick ≤ 2 ^ 62 → length s.states ≡ length s.settings.services →
      length s.settings.services ≤ s.settings.slots → s.next + start_count tick s ≤ 2097152 → CanSettle tick s)
  pub most : ¬ ((s : RsRecord) (tick : ℕ) → s.tick ≤ tick → length s.states ≡ length s.settings.services →
      length s.settings.services ≤ s.settings.slots → s.next + start_count tick s ≤ 2097152 → CanSettle tick s)
  pub count : ¬ ((s : RsRecord) (tick : ℕ) → s.tick ≤ tick → tick ≤ 2 ^ 62 →
      length s.settings.services ≤ s.settings.slots → s.next + start_count tick s ≤ 2097152 → CanSettle tick s)
  pub slots : ¬ ((s : RsRecord) (tick : ℕ) → s.tick ≤ tick → tick ≤ 2 ^ 62 → length s.states ≡ length s.settings.services →
      s.next + start_count tick s ≤ 2097152 → CanSettle tick s)
  pub generations : ¬ ((s : RsRecord) (tick : ℕ) → s.tick ≤ tick → tick ≤ 2 ^ 62 → length s.states ≡ length s.settings.services →
      length s.settings.services ≤ s.settings.slots → CanSettle tick s)

-- Whether an instance of a newer generation runs.
abbrev pub RunsNewer : RsRecord → ℕ → Running → Type 0
RunsNewer t i r = (q : Running) × (state_at t i ≡ Up q) × (r.endpoint.generation < q.endpoint.generation)

-- The premises of recovery that settling doesn't need. The failed instance's generation is one that RS gave, and the
-- service still waits.
pub record RecoveryNeeds : Type 0 where
  pub given : ¬ ((s u m t : RsRecord) (event : Event) (fell tick : ℕ) (actions : List Action) (i : ℕ) (r : Running) (p : Pause)
      (between steps : List (List Action)) → i < length m.settings.services → IsFailure s event fell actions u i r p →
      RsRun u between m → state_at m i ≡ Waiting p → p.until ≤ tick → ReportsSettle tick m steps t → RunsNewer t i r)
  pub waits : ¬ ((s u m t : RsRecord) (event : Event) (fell tick : ℕ) (actions : List Action) (i : ℕ) (r : Running) (p : Pause)
      (between steps : List (List Action)) → i < length m.settings.services → r.endpoint.generation < s.next →
      IsFailure s event fell actions u i r p → RsRun u between m → p.until ≤ tick → ReportsSettle tick m steps t → RunsNewer t i r)

-- A failure, no later event, and ticks that settle once the pause is over.
pub record IsRecovery (s u t : RsRecord) (event : Event) (fell tick : ℕ) (actions : List Action) (i : ℕ) (r : Running) (p : Pause)
    (steps : List (List Action)) : Type 0 where
  pub within : i < length u.settings.services
  pub given : r.endpoint.generation < s.next
  pub fails : IsFailure s event fell actions u i r p
  pub over : p.until ≤ tick
  pub settles : ReportsSettle tick u steps t

-- An example in which all premises hold.
abbrev pub RecoveryHappens : Type 0
RecoveryHappens = (s : RsRecord) × (u : RsRecord) × (t : RsRecord) × (event : Event) × (fell : ℕ) × (tick : ℕ) ×
    (actions : List Action) × (i : ℕ) × (r : Running) × (p : Pause) × (steps : List (List Action)) ×
    IsRecovery s u t event fell tick actions i r p steps
