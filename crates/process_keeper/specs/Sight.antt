-- A label's body as a service of the rule, and whether what it saw is true on a host.
use Rattle.std.specs.Prelude.{◌≡◌, ℕ, true, false, Option, Some, None}
use Rattle.process_rule.specs.Kernel.{Process}
use Rattle.process_rule.specs.Supervisor.{InstanceState, ServiceState, Host}
use Rattle.process_rule.specs.Progress.{OnlyLeader}
use Rattle.process_keeper.specs.declared.instance.Instance.{Instance}
use Rattle.process_keeper.specs.declared.lifecycle.Lifecycle.{Lifecycle}

abbrev pub instance_state : Instance → InstanceState
instance_state i = record { generation = i.generation; leader = i.leader; deadline = i.deadline }

abbrev pub some_instance : Option Instance → Option InstanceState
some_instance None = None
some_instance (Some i) = Some (instance_state i)

-- The label as the rule knows it.
abbrev pub service : Lifecycle → ServiceState
service p = record { instance = some_instance p.instance; pending = p.pending; clean = p.is_clean }

-- Whether the host's service is the label, and what was seen of its processes is true: its leader exited, and a scan found nothing else.
pub record IsTrueOf (h : Host) (k : ℕ) (p : Lifecycle) : Type 0 where
  pub same : h.services k ≡ service p
  pub exited : p.has_exited ≡ true → (i : InstanceState) → (service p).instance ≡ Some i → (r : Process) → h.processes i.leader ≡ Some r →
      r.alive ≡ false
  pub empty : p.has_exited ≡ true → p.is_empty ≡ true → (i : InstanceState) → (service p).instance ≡ Some i → OnlyLeader h k i.leader
