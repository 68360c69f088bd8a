-- Laws of each reachable supervisor.
use Rattle.std.specs.Prelude.{◌≡◌, ℕ, ◌<◌, true, false, List, Some, None, slice_get}
use Rattle.std.specs.List.{list_any}
use Rattle.history.specs.History.{Path}
use Rattle.ds_names.specs.Endpoint.{EndpointRecord}
use Rattle.process_rule.specs.Kernel.{Process}
use Rattle.process_rule.specs.Supervisor.{Host}
use Rattle.process_rule.specs.Events.{IsReachable}
use Rattle.process_keeper.specs.Doing.{MayDo}
use Rattle.process_keeper.specs.Following.{wanted}
use Rattle.process_keeper.specs.Sight.{IsTrueOf}
use Rattle.process_keeper.specs.declared.input.Input.TheVariants.{Reaped}
use Rattle.process_keeper.specs.declared.instance.Instance.{Instance}
use Rattle.process_keeper.specs.declared.lifecycle.Lifecycle.{Lifecycle}
use Rattle.process_keeper.specs.declared.task.Task.TheVariants.{Fork}
use Rattle.rs_core.specs.declared.state.State.TheVariants.{Up}
use Rattle.rs_core.specs.declared.state.Running.{Running}
use Rattle.rs_core.specs.Late.{endpoint_in_force, in_force, IsUncounted}
use Rattle.rs_core.specs.Says.{place_of_label}
use Rattle.rs_core.specs.State.{state_at}
use Rattle.supervisor.specs.Moves.{Move, IsMove, IsReachableSupervisor, lifecycles, reaps}
use Rattle.supervisor.specs.Moves.Move.{Note, Report, Vouch}
use Rattle.supervisor.specs.declared.supervisor.Supervisor.{Supervisor}

-- RS and the processes of its services agree.
pub record Agree (s : Supervisor) : Type 0 where
  -- a process is forked only for an instance that RS counts as up
  pub forks : (k g now : ℕ) (p : Lifecycle) → slice_get (lifecycles s) k ≡ Some p → MayDo p now (Fork g) →
      in_force (state_at s.rs k) ≡ Some g
  -- an instance that has no deadline is the one that RS counts as up
  pub runs : (k : ℕ) (p : Lifecycle) (i : Instance) → slice_get (lifecycles s) k ≡ Some p → p.instance ≡ Some i → i.deadline ≡ None →
      in_force (state_at s.rs k) ≡ Some i.generation
  -- what RS counts as up runs, or is to be forked
  pub serves : (k g : ℕ) → in_force (state_at s.rs k) ≡ Some g →
      (p : Lifecycle) × (slice_get (lifecycles s) k ≡ Some p) × (wanted p ≡ Some g)
  -- its generation is on disk, and no other service's
  pub written : (k g : ℕ) → in_force (state_at s.rs k) ≡ Some g → g < s.keeper.file
  pub single : (j k g : ℕ) → in_force (state_at s.rs j) ≡ Some g → in_force (state_at s.rs k) ≡ Some g → j ≡ k

-- A law: they agree after any moves.
abbrev pub SupervisorsAgree : Type 0
SupervisorsAgree = (s : Supervisor) → IsReachableSupervisor s → Agree s

-- A law: while a label's instance is up, each process that a scan finds of the label is of the instance that RS counts. The host knows the
-- label by any number `n`, since other settings give it another number `k`.
abbrev pub OneIsCounted : Type 0
OneIsCounted =
    (s : Supervisor) (h : Host) (k n : ℕ) (p : Lifecycle) (i : Instance) → IsReachableSupervisor s → IsReachable h →
    slice_get (lifecycles s) k ≡ Some p → IsTrueOf h n p → p.instance ≡ Some i → i.deadline ≡ None → (q : ℕ) (r : Process) →
    h.processes q ≡ Some r → r.found ≡ true → r.label ≡ n → in_force (state_at s.rs k) ≡ Some r.generation

-- A law: once a label's instance is reported, RS doesn't count it.
abbrev pub DeathsAreFinal : Type 0
DeathsAreFinal =
    (s t : Supervisor) (k cause tick now : ℕ) (endpoint : EndpointRecord) → IsReachableSupervisor s →
    endpoint_in_force (state_at s.rs k) ≡ Some endpoint → IsMove s (Report k cause tick now) t → IsUncounted t.rs endpoint

-- A law: RS has heard an instance, at the tick, that it was vouched for.
abbrev pub VouchedAreHeard : Type 0
VouchedAreHeard =
    (s t : Supervisor) (k tick : ℕ) → IsReachableSupervisor s → IsMove s (Vouch k tick) t →
    (r : Running) × (state_at t.rs k ≡ Up r) × (r.beat ≡ tick)

-- A law: the label with a number keeps its leader until that is reaped, whatever the events, while labels have the same numbers.
abbrev pub LeadersStay : Type 0
LeadersStay =
    (s t : Supervisor) (moves : List Move) (k : ℕ) (p : Lifecycle) (i : Instance) → Path IsMove s moves t →
    list_any (reaps k) moves ≡ false → slice_get (lifecycles s) k ≡ Some p → p.instance ≡ Some i →
    (q : Lifecycle) × (j : Instance) × (slice_get (lifecycles t) k ≡ Some q) × (q.instance ≡ Some j) × (j.leader ≡ i.leader) ×
    (j.generation ≡ i.generation)

-- Whether the service with this name has an instance with this leader and generation.
pub record HasLeader (s : Supervisor) (name : List ℕ) (leader generation : ℕ) : Type 0 where
  pub place : ℕ
  pub named : place_of_label s.rs name ≡ Some place
  pub label : Lifecycle
  pub there : slice_get (lifecycles s) place ≡ Some label
  pub instance : Instance
  pub runs : label.instance ≡ Some instance
  pub leads : instance.leader ≡ leader
  pub given : instance.generation ≡ generation

-- Whether the call leads from one supervisor to the next, and doesn't reap the leader of the service with this name.
abbrev pub SparesLeader : List ℕ → Supervisor → Move → Supervisor → Type 0
SparesLeader name s m t = IsMove s m t × ((k : ℕ) → place_of_label s.rs name ≡ Some k → m ≡ Note k Reaped → ⊥)

-- A law: the service with a name keeps its leader until that is reaped, whatever number other settings give it.
abbrev pub NamedLeadersStay : Type 0
NamedLeadersStay =
    (s t : Supervisor) (moves : List Move) (name : List ℕ) (leader generation : ℕ) → Path (SparesLeader name) s moves t →
    HasLeader s name leader generation → HasLeader t name leader generation
