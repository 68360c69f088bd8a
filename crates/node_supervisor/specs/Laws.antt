-- Laws of RS beside its store, and the processes of its services: they are a supervisor, whose laws hold of them.
use Rattle.std.specs.Prelude.{◌≡◌, ℕ, false, List, Some, slice_get}
use Rattle.std.specs.List.{list_any}
use Rattle.history.specs.History.{Path}
use Rattle.process_keeper.specs.declared.instance.Instance.{Instance}
use Rattle.process_keeper.specs.declared.lifecycle.Lifecycle.{Lifecycle}
use Rattle.rs_core.specs.State.{RsRecord}
use Rattle.supervisor.specs.Laws.{Agree}
use Rattle.supervisor.specs.Moves.{IsMove, IsNewSupervisor, IsReachableSupervisor, reaps}
use Rattle.node_supervisor.specs.Moves.{IsNodeMove, NodeMove, NodeState, supervised_in, supervisor_of}

-- A law: moves, with clients' commands to the store among them, lead RS and the keepers as their own moves lead a supervisor.
abbrev pub NodesAreSupervisors : Type 0
NodesAreSupervisors =
    (s t : NodeState) (moves : List NodeMove) (rs : RsRecord) → s.node.services ≡ Some rs → Path IsNodeMove s moves t →
    (after : RsRecord) × (t.node.services ≡ Some after) ×
    Path IsMove (supervisor_of rs s.keeper) (supervised_in moves) (supervisor_of after t.keeper)

-- A state after any moves from a beginning: RS has all services down, and nothing is known of their processes.
pub record IsReachableNode (s : NodeState) : Type 0 where
  pub first : NodeState
  pub began : RsRecord
  pub begins : first.node.services ≡ Some began
  pub new : IsNewSupervisor (supervisor_of began first.keeper)
  pub moves : List NodeMove
  pub led : Path IsNodeMove first moves s

-- A law: it is a supervisor that can be reached. So each law of those holds.
abbrev pub NodesAreReachable : Type 0
NodesAreReachable =
    (s : NodeState) → IsReachableNode s → (rs : RsRecord) × (s.node.services ≡ Some rs) × IsReachableSupervisor (supervisor_of rs s.keeper)

-- A law: RS and the processes of its services agree.
abbrev pub NodesAgree : Type 0
NodesAgree = (s : NodeState) → IsReachableNode s → (rs : RsRecord) × (s.node.services ≡ Some rs) × Agree (supervisor_of rs s.keeper)

-- A law: the label with a number keeps its leader until that is reaped, while labels have the same numbers.
abbrev pub NodeLeadersStay : Type 0
NodeLeadersStay =
    (s t : NodeState) (moves : List NodeMove) (rs : RsRecord) (k : ℕ) (p : Lifecycle) (i : Instance) → s.node.services ≡ Some rs →
    Path IsNodeMove s moves t → list_any (reaps k) (supervised_in moves) ≡ false → slice_get s.keeper.labels.items k ≡ Some p →
    p.instance ≡ Some i →
    (q : Lifecycle) × (j : Instance) × (slice_get t.keeper.labels.items k ≡ Some q) × (q.instance ≡ Some j) × (j.leader ≡ i.leader) ×
    (j.generation ≡ i.generation)
