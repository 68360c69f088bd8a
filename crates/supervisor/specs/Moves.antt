-- The moves of a supervisor: one for each call that changes it.
use Rattle.std.specs.Prelude.{◌≡◌, ℕ, ◌==◌, Bool, true, false, List, None, length}
use Rattle.std.specs.List.{All}
use Rattle.history.specs.History.{Path}
use Rattle.process_rule.specs.Supervisor.{new_service}
use Rattle.process_keeper.specs.Order.{TakesAt}
use Rattle.process_keeper.specs.Sight.{service}
use Rattle.process_keeper.specs.declared.input.Input.{Input}
use Rattle.process_keeper.specs.declared.input.Input.TheVariants.{Reaped}
use Rattle.process_keeper.specs.declared.lifecycle.Lifecycle.{Lifecycle}
use Rattle.rs_core.specs.declared.action.Action.{Action}
use Rattle.rs_core.specs.declared.event.Event.{Event}
use Rattle.rs_core.specs.Late.{in_force}
use Rattle.rs_core.specs.State.{state_at}
use Rattle.rs_settings.specs.Settings.{SettingsRecord}
use Rattle.supervisor.specs.Following.{LabelsFollow, ReportsAndFollows, is_note}
use Rattle.supervisor.specs.Renewal.{IsRenewed}
use Rattle.supervisor.specs.Telling.{ReportIsTold, Told, VouchesAt}
use Rattle.supervisor.specs.declared.supervisor.Supervisor.{Supervisor}

pub data Move : Type 0 where
  Tell : Event → ℕ → ℕ → Move  -- an event of RS: its tick, and the deadline of instances that it stops
  Report : ℕ → ℕ → ℕ → ℕ → Move  -- a label's instance died: the label, the cause, the tick and the time
  Vouch : ℕ → ℕ → Move  -- RS hears a heartbeat for a pending start: the label and the tick
  Renew : SettingsRecord → Move  -- other settings
  Note : ℕ → Input → Move  -- a label takes an input
  Write : ℕ → Move  -- the file has this generation

abbrev pub lifecycles : Supervisor → List Lifecycle
lifecycles s = s.keeper.labels.items

-- Whether the call leads from one supervisor to the next.
abbrev pub IsMove : Supervisor → Move → Supervisor → Type 0
IsMove s (Tell event tick deadline) t =
    ((actions : List Action) × Told s.rs s.keeper.next s.keeper.file event tick actions t.rs t.keeper.next) ×
    LabelsFollow t.rs deadline (lifecycles s) (lifecycles t)
IsMove s (Report k cause tick now) t =
    ((actions : List Action) × ReportIsTold s.rs s.keeper.next s.keeper.file k cause tick actions t.rs t.keeper.next) ×
    ReportsAndFollows t.rs k now (lifecycles s) (lifecycles t)
IsMove s (Vouch k tick) t = VouchesAt s.rs (lifecycles s) k tick true t.rs × (t.keeper ≡ s.keeper)
IsMove s (Renew settings) t = IsRenewed s.rs (lifecycles s) settings t.rs (lifecycles t) × (t.keeper.next ≡ s.keeper.next)
IsMove s (Note k input) t =
    (is_note input ≡ true) × TakesAt (lifecycles s) k input true (lifecycles t) × (t.rs ≡ s.rs) × (t.keeper.next ≡ s.keeper.next)
IsMove s (Write file) t = (lifecycles t ≡ lifecycles s) × (t.rs ≡ s.rs) × (t.keeper.next ≡ s.keeper.next)

-- A supervisor of which RS has all services down.
pub record IsNewSupervisor (s : Supervisor) : Type 0 where
  pub down : (k : ℕ) → in_force (state_at s.rs k) ≡ None
  pub count : length (lifecycles s) ≡ length s.rs.states
  pub idle : All (λ p. service p ≡ new_service) (lifecycles s)
  pub generations : s.keeper.next ≡ s.rs.next

pub record IsReachableSupervisor (s : Supervisor) : Type 0 where
  pub first : Supervisor
  pub moves : List Move
  pub new : IsNewSupervisor first
  pub led : Path IsMove first moves s

-- Whether the label with this number may lose its leader by the move: that is reaped, or labels get other numbers.
abbrev pub reaps : ℕ → Move → Bool
reaps k (Note j Reaped) = j == k
reaps k (Renew settings) = true
reaps k _ = false
