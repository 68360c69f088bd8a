-- What holds of each world: the invariant.
use Rattle.std.proofs.Common.{◌≡◌, ◌<◌, ℕ, true, false, List, Some, None}
use Rattle.std.specs.List.{Contains}
use Rattle.process_rule.specs.Kernel.{Process, Processes, IsOnce}
use Rattle.process_rule.specs.Supervisor.{InstanceState, ServiceState, Host}
use Rattle.process_rule.specs.Events.{IsDue}

-- Whether the service has an instance of this generation.
abbrev pub Holds : ServiceState → ℕ → Type 0
Holds service g = (i : InstanceState) × (service.instance ≡ Some i) × (i.generation ≡ g)

-- What is known of a process. `current`: of which instance the processes of a label are, and `leaders`: the number of an
-- instance's leader process.
pub record IsKeptProcess (services : ℕ → ServiceState) (begun reported : List ℕ) (now : ℕ) (current leaders : ℕ → ℕ) (q : ℕ)
    (r : Process) : Type 0 where
  pub generation : r.found ≡ true → current r.label ≡ r.generation
  pub leader : r.leads ≡ true → leaders r.generation ≡ q
  pub begins : r.leads ≡ true → Contains begun r.generation
  pub dead : r.leads ≡ true → Contains reported r.generation → r.alive ≡ false
  pub held : r.found ≡ true → (services r.label).clean ≡ true → Holds (services r.label) r.generation
  pub group : (k : ℕ) (i : InstanceState) → (services k).instance ≡ Some i → r.group ≡ i.leader → (r.label ≡ k) × (r.found ≡ true)
  pub spared : r.found ≡ true → r.killed ≡ true → (i : InstanceState) → (services r.label).instance ≡ Some i → IsDue i now

-- The leader process of an instance that has begun is there, and a child of this very supervisor.
pub record IsKeptLeader (processes : Processes) (run k : ℕ) (i : InstanceState) : Type 0 where
  pub it : Process
  pub there : processes i.leader ≡ Some it
  pub leads : it.leads ≡ true
  pub of_run : it.run ≡ run
  pub label : it.label ≡ k
  pub generation : it.generation ≡ i.generation
  pub sees : it.found ≡ true

pub record IsKeptService (processes : Processes) (given begun reported : List ℕ) (run k : ℕ) (service : ServiceState) : Type 0 where
  pub leader : (i : InstanceState) → service.instance ≡ Some i → IsKeptLeader processes run k i
  pub clean : (i : InstanceState) → service.instance ≡ Some i → service.clean ≡ true
  pub pending : (g : ℕ) → service.pending ≡ Some g → Contains given g × (Contains begun g → ⊥)
  pub unreported : (i : InstanceState) → service.instance ≡ Some i → i.deadline ≡ None → Contains reported i.generation → ⊥
  pub waits : (g : ℕ) (i : InstanceState) → service.pending ≡ Some g → service.instance ≡ Some i → i.deadline ≡ None → ⊥

pub record IsKept (w : Host) : Type 0 where
  pub current : ℕ → ℕ
  pub leaders : ℕ → ℕ
  pub processes : (q : ℕ) (r : Process) → w.processes q ≡ Some r → IsKeptProcess w.services w.begun w.reported w.now current leaders q r
  pub services : (k : ℕ) → IsKeptService w.processes w.given w.begun w.reported w.run k (w.services k)
  pub single : (j k g : ℕ) → (w.services j).pending ≡ Some g → (w.services k).pending ≡ Some g → j ≡ k
  pub below : (g : ℕ) → Contains w.given g → (g < w.next) × (g < w.file)
  pub begun : (g : ℕ) → Contains w.begun g → Contains w.given g
  pub reported : (g : ℕ) → Contains w.reported g → Contains w.begun g
  pub given_once : IsOnce w.given
  pub begun_once : IsOnce w.begun
  pub reported_once : IsOnce w.reported
