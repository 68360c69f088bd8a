-- The tasks that a label may have, and when it has none.
use Rattle.std.specs.Prelude.{◌≡◌, ◌⊎◌, ◌<◌, ◌≤◌, ℕ, true, false, Some, None}
use Rattle.process_rule.specs.Supervisor.{InstanceState}
use Rattle.process_rule.specs.Events.{IsDue}
use Rattle.process_keeper.specs.Sight.{service}
use Rattle.process_keeper.specs.declared.lifecycle.Lifecycle.{Lifecycle}
use Rattle.process_keeper.specs.declared.task.Task.{Task}
use Rattle.process_keeper.specs.declared.task.Task.TheVariants.{Rest, Clear, Fork, Report, Ask, Kill, Scan, Reap}

-- Whether the instance with this leader is stopped or reported.
abbrev pub IsStopping : Lifecycle → ℕ → InstanceState → Type 0
IsStopping p n i = ((service p).instance ≡ Some i) × (i.leader ≡ n) × ((t : ℕ) × (i.deadline ≡ Some t))

-- Whether the rule allows the task.
abbrev pub MayDo : Lifecycle → ℕ → Task → Type 0
MayDo p now Rest = Unit {0}
MayDo p now Clear = p.is_clean ≡ false
MayDo p now (Fork g) =
    ((service p).pending ≡ Some g) × ((service p).instance ≡ None) × ((service p).clean ≡ true) × (p.retry_at ≤ now)
MayDo p now (Report g) =
    (i : InstanceState) × ((service p).instance ≡ Some i) × (i.generation ≡ g) × (i.deadline ≡ None) × (p.has_exited ≡ true)
MayDo p now (Ask n) = (i : InstanceState) × IsStopping p n i × (p.is_asked ≡ false)
-- SIGTERM was sent before.
MayDo p now (Kill n) =
    (i : InstanceState) × ((service p).instance ≡ Some i) × (i.leader ≡ n) × IsDue i now × (p.is_asked ≡ true) × (p.is_killed ≡ false)
-- Nothing is scanned while an instance is up.
MayDo p now (Scan n) = (i : InstanceState) × IsStopping p n i × (p.has_exited ≡ true) × (p.is_scanned ≡ false)
MayDo p now (Reap n) =
    (i : InstanceState) × IsStopping p n i × (p.has_exited ≡ true) × (p.is_scanned ≡ true) × (p.is_empty ≡ true)

-- A label about which nothing is to be done. Leftovers were scanned for. A start waits for the last instance, or for its next attempt. A
-- death was reported. A stopped instance was sent SIGTERM, and has until its deadline, or was sent SIGKILL; and if its leader exited, the
-- last scan found something else.
pub record IsSettled (p : Lifecycle) (now : ℕ) : Type 0 where
  pub clean : (p.is_clean ≡ true) ⊎ (p.is_scanned ≡ true)
  pub waits : p.is_clean ≡ true → (g : ℕ) → (service p).pending ≡ Some g → (service p).instance ≡ None → now < p.retry_at
  pub up : p.is_clean ≡ true → (i : InstanceState) → (service p).instance ≡ Some i → i.deadline ≡ None → p.has_exited ≡ false
  pub ends : p.is_clean ≡ true → (i : InstanceState) → (service p).instance ≡ Some i → (t : ℕ) → i.deadline ≡ Some t →
      (p.is_asked ≡ true) × ((now < t) ⊎ (p.is_killed ≡ true))
  pub scanned : p.is_clean ≡ true → (i : InstanceState) → (service p).instance ≡ Some i → (t : ℕ) → i.deadline ≡ Some t →
      p.has_exited ≡ true → (p.is_scanned ≡ true) × (p.is_empty ≡ false)

abbrev pub RestsSettled : Lifecycle → ℕ → Task → Type 0
RestsSettled p now Rest = IsSettled p now
RestsSettled p now _ = Unit {0}
