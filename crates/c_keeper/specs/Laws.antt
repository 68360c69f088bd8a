-- Laws of the calls on a session whose keepers are open: RS and the processes of its services go as a node and its processes go.
use Rattle.std.specs.Prelude.{◌≡◌, ℕ, List, Some}
use Rattle.history.specs.History.{Path}
use Rattle.rs_core.specs.State.{RsRecord}
use Rattle.supervisor.specs.Laws.{Agree}
use Rattle.node_supervisor.specs.Moves.{IsNodeMove, NodeMove, NodeState, supervisor_of}
use Rattle.node_supervisor.specs.declared.processes.Processes.{Processes}
use Rattle.c_values.specs.declared.answer.Answer.{Answer}
use Rattle.c_values.specs.declared.request.Request.{Request}
use Rattle.c_rs.specs.declared.event.RsEvent.{RsEvent}
use Rattle.c_rs.specs.declared.fault.SettingsRefusal.{SettingsRefusal}
use Rattle.c_rs.specs.declared.session.RsSession.{RsSession}
use Rattle.c_rs.specs.Requests.{CallsRs}
use Rattle.c_keeper.specs.declared.session.KeeperSession.{KeeperSession}
use Rattle.c_keeper.specs.Keeping.{KeepsEvent, KeepsReport, Vouches}
use Rattle.c_keeper.specs.Noting.{Notes, NotesWritten}
use Rattle.c_keeper.specs.Opening.{AreNewKeepers, CountsNone}
use Rattle.c_keeper.specs.Renewing.{RenewsSession}

-- RS beside its store, and the processes.
abbrev pub node_of : RsSession → Processes → NodeState
node_of s p = record { node = s.session.node; keeper = p.keeper }

-- A call: a request to the store, one of the keepers' own, or other settings, from a text.
pub data KeptCall : Type 0 where
  Requested : List ℕ → Request → KeptCall
  Occurred : RsEvent → ℕ → KeptCall
  Reported : ℕ → ℕ → ℕ → ℕ → KeptCall
  Vouched : ℕ → ℕ → KeptCall
  Noted : ℕ → ℕ → ℕ → KeptCall
  Written : ℕ → KeptCall
  Renewed : List ℕ → KeptCall

-- Whether the call leads from one session to the next.
abbrev pub IsKeptCall : KeeperSession → KeptCall → KeeperSession → Type 0
IsKeptCall s (Requested texts r) t = ((answer : Answer) × CallsRs texts s.rs r answer t.rs) × (t.processes ≡ s.processes)
IsKeptCall s (Occurred e deadline) t = (before answer : Answer) × (word : ℕ) × KeepsEvent e deadline s before word answer t
IsKeptCall s (Reported k cause tick now) t = (before answer : Answer) × (word : ℕ) × KeepsReport k cause tick now s before word answer t
IsKeptCall s (Vouched k tick) t = (word : ℕ) × Vouches k tick s word t
IsKeptCall s (Noted k kind value) t = ((word : ℕ) × Notes k kind value s.processes word t.processes) × (t.rs ≡ s.rs)
IsKeptCall s (Written file) t = ((word : ℕ) × NotesWritten file s.processes word t.processes) × (t.rs ≡ s.rs)
IsKeptCall s (Renewed text) t = (before fault : SettingsRefusal) × (word : ℕ) × RenewsSession text s before word fault t

-- Whether moves of a node lead from these processes to those of the session.
abbrev pub LeadsKept : RsSession → Processes → KeeperSession → Type 0
LeadsKept s p t =
    (q : Processes) × (t.processes ≡ Some q) × ((moves : List NodeMove) × Path IsNodeMove (node_of s p) moves (node_of t.rs q))

-- A law: calls lead as moves of RS beside its store, and of the processes, lead.
abbrev pub KeptCallsAreMoves : Type 0
KeptCallsAreMoves =
    (s t : KeeperSession) (calls : List KeptCall) (rs : RsRecord) (p : Processes) → s.rs.session.node.services ≡ Some rs →
    s.processes ≡ Some p → Path IsKeptCall s calls t → LeadsKept s.rs p t

-- A law: after any calls, RS and the processes of its services agree.
abbrev pub KeptSessionsAgree : Type 0
KeptSessionsAgree =
    (s t : KeeperSession) (calls : List KeptCall) (rs : RsRecord) (p : Processes) → s.rs.session.node.services ≡ Some rs →
    s.processes ≡ Some p → CountsNone rs → AreNewKeepers rs p → Path IsKeptCall s calls t →
    (after : RsRecord) × (q : Processes) × (t.rs.session.node.services ≡ Some after) × (t.processes ≡ Some q) ×
    Agree (supervisor_of after q.keeper)
