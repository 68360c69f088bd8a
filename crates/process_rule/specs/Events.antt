-- The events of a host: when each may happen, and what it changes.
use Rattle.std.specs.Prelude.{◌≡◌, ◌⊎◌, ℕ, ◌+◌, ◌<◌, ◌≤◌, Bool, true, false, List, [], ◌∷◌, Option, Some, None}
use Rattle.history.specs.History.{Path}
use Rattle.process_rule.specs.Kernel.{Process, IsFreeNumber, put_process}
use Rattle.process_rule.specs.Supervisor.{InstanceState, ServiceState, Host, new_service, replaced}

-- An event: its label or its process number, and the record that is there.
pub data Event : Type 0 where
  -- Of RS.
  Start : ℕ → Event  -- a start, which is pending until its leader is forked
  Cancel : ℕ → Event  -- a pending start is taken back
  Stop : ℕ → InstanceState → ℕ → Event  -- an instance is to end, after this grace period
  Shorten : ℕ → InstanceState → ℕ → Event  -- what is left of a grace period becomes this
  -- Of the supervisor.
  Write : ℕ → Event  -- the file has this generation
  Begin : ℕ → ℕ → ℕ → Event  -- the leader of a pending start is forked: label, generation, process number
  Fail : ℕ → Event  -- it can't be: no process, socket or descriptor is to be had
  Report : ℕ → InstanceState → Process → Event  -- RS is informed that the instance died
  Kill : ℕ → Process → Event  -- SIGKILL reaches a process, alone or as one of its group
  Reap : ℕ → InstanceState → Process → Event  -- a scan found only the instance's leader, which is reaped
  Clear : ℕ → Event  -- a scan found no leftover
  Forget : ℕ → Event  -- a label is left out: if it comes again, leftovers are scanned for
  -- Of the kernel.
  Fork : ℕ → Process → ℕ → Event  -- with the child's number
  Exit : ℕ → Process → Event
  Vanish : ℕ → Process → Event  -- a process is reaped that isn't a leader of this run
  Leave : ℕ → Process → Bool → Event  -- a process makes a group of its own; whether a scan still finds it
  Join : ℕ → Process → ℕ → Process → Event  -- a process joins the group of another one
  Pass : ℕ → Event  -- time
  Restart : Event  -- the supervisor is killed, at any instant, and its next run begins

abbrev pub leader_of : ℕ → ℕ → ℕ → ℕ → Process
leader_of k g p run =
    record { label = k; generation = g; found = true; group = p; alive = true; killed = false; leads = true; run = run }

abbrev pub with_service : Host → ℕ → ServiceState → Host
with_service h k s = record h { services = replaced k s h.services }

abbrev pub with_process : Host → ℕ → Option Process → Host
with_process h q o = record h { processes = put_process q o h.processes }

-- The instance with a deadline.
abbrev pub stopping : InstanceState → ℕ → InstanceState
stopping i t = record i { deadline = Some t }

-- The host after the event.
abbrev pub after_event : Host → Event → Host
after_event h (Start k) =
    record (with_service h k (record (h.services k) { pending = Some h.next })) { next = h.next + 1; given = h.next ∷ h.given }
after_event h (Cancel k) = with_service h k (record (h.services k) { pending = None })
after_event h (Stop k i n) = with_service h k (record (h.services k) { instance = Some (stopping i (h.now + n)) })
after_event h (Shorten k i n) = with_service h k (record (h.services k) { instance = Some (stopping i (h.now + n)) })
after_event h (Write n) = record h { file = n }
after_event h (Begin k g p) =
    record h {
      processes = put_process p (Some (leader_of k g p h.run)) h.processes;
      services = replaced k
          (record (h.services k) { instance = Some (record { generation = g; leader = p; deadline = None }); pending = None })
          h.services;
      begun = g ∷ h.begun;
    }
after_event h (Fail k) = h
after_event h (Report k i r) =
    record (with_service h k (record (h.services k) { instance = Some (stopping i h.now) })) { reported = i.generation ∷ h.reported }
after_event h (Kill q r) = with_process h q (Some (record r { killed = true }))
after_event h (Reap k i r) =
    record h {
      processes = put_process i.leader None h.processes;
      services = replaced k (record (h.services k) { instance = None }) h.services;
    }
after_event h (Clear k) = with_service h k (record (h.services k) { clean = true })
after_event h (Forget k) = with_service h k (record (h.services k) { pending = None; clean = false })
after_event h (Fork q r n) = with_process h n (Some (record r { leads = false }))
after_event h (Exit q r) = with_process h q (Some (record r { alive = false }))
after_event h (Vanish q r) = with_process h q None
after_event h (Leave q r b) = with_process h q (Some (record r { group = q; found = b }))
after_event h (Join q r m s) = with_process h q (Some (record r { group = s.group }))
after_event h (Pass n) = record h { now = h.now + n }
-- The next run knows only the file. All processes live on.
after_event h Restart = record h { services = λ k. new_service; next = h.file; run = h.run + 1 }

-- Whether the instance was stopped or reported, and its grace period has passed.
pub record IsDue (i : InstanceState) (now : ℕ) : Type 0 where
  pub at : ℕ
  pub set : i.deadline ≡ Some at
  pub passed : at ≤ now

-- Whether the process may be sent SIGKILL: it is a leftover, or of an instance that is due. A scan finds it.
abbrev pub MayKill : Host → Process → Type 0
MayKill h r =
    (r.found ≡ true) ×
    (((h.services r.label).clean ≡ false) ⊎
    ((i : InstanceState) × ((h.services r.label).instance ≡ Some i) × (r.generation ≡ i.generation) × IsDue i h.now))

-- Whether the event may happen.
abbrev pub May : Host → Event → Type 0
-- The generation is on disk. No other start is pending, and no instance is up.
May h (Start k) =
    ((h.services k).pending ≡ None) × ((i : InstanceState) → (h.services k).instance ≡ Some i → i.deadline ≡ None → ⊥) × (h.next < h.file)
May h (Cancel k) = Unit {0}
May h (Stop k i n) = ((h.services k).instance ≡ Some i) × (i.deadline ≡ None)
May h (Shorten k i n) = ((h.services k).instance ≡ Some i) × ((t : ℕ) × (i.deadline ≡ Some t) × (h.now + n ≤ t))
May h (Write n) = h.next ≤ n
-- The last instance is reaped, and there is no leftover.
May h (Begin k g p) =
    ((h.services k).pending ≡ Some g) × ((h.services k).instance ≡ None) × ((h.services k).clean ≡ true) × IsFreeNumber h.processes p
May h (Fail k) = Unit {0}
May h (Report k i r) =
    ((h.services k).instance ≡ Some i) × (i.deadline ≡ None) × (h.processes i.leader ≡ Some r) × (r.alive ≡ false)
May h (Kill q r) = (h.processes q ≡ Some r) × MayKill h r
-- The leader is reaped last.
May h (Reap k i r) =
    ((h.services k).instance ≡ Some i) × ((t : ℕ) × (i.deadline ≡ Some t)) × (h.processes i.leader ≡ Some r) × (r.alive ≡ false) ×
    ((q : ℕ) (s : Process) → h.processes q ≡ Some s → s.found ≡ true → s.label ≡ k → q ≡ i.leader)
May h (Clear k) = (q : ℕ) (s : Process) → h.processes q ≡ Some s → s.found ≡ true → s.label ≡ k → ⊥
-- The last instance is reaped, and there is no leftover.
May h (Forget k) = ((h.services k).instance ≡ None) × ((h.services k).clean ≡ true)
May h (Fork q r n) = (h.processes q ≡ Some r) × (r.alive ≡ true) × (r.killed ≡ false) × IsFreeNumber h.processes n
May h (Exit q r) = h.processes q ≡ Some r
-- The supervisor alone reaps the leaders of its run.
May h (Vanish q r) = (h.processes q ≡ Some r) × (r.alive ≡ false) × ((r.leads ≡ true) → (r.run ≡ h.run) → ⊥)
-- A leader also leads its session, so it can't leave its group.
May h (Leave q r b) = (h.processes q ≡ Some r) × (r.alive ≡ true) × (r.leads ≡ false) × (b ≡ true → r.found ≡ true)
-- A group has one session, and a session one instance. A process that scans don't find joins none of their groups.
May h (Join q r m s) =
    (h.processes q ≡ Some r) × (h.processes m ≡ Some s) × (r.alive ≡ true) × (r.leads ≡ false) × (r.found ≡ true) × (s.label ≡ r.label) ×
    (s.generation ≡ r.generation)
May h (Pass n) = Unit {0}
May h Restart = Unit {0}

abbrev pub Occurs : Host → Event → Host → Type 0
Occurs h e x = May h e × (after_event h e ≡ x)

abbrev pub OccurAll : Host → List Event → Host → Type 0
OccurAll = Path Occurs

-- A host on which no supervisor has run. Its processes belong to no instance.
pub record IsNewHost (h : Host) : Type 0 where
  pub processes : (q : ℕ) (r : Process) → h.processes q ≡ Some r → (r.found ≡ false) × (r.leads ≡ false) × (r.killed ≡ false)
  pub services : (k : ℕ) → h.services k ≡ new_service
  pub given : h.given ≡ []
  pub begun : h.begun ≡ []
  pub reported : h.reported ≡ []

-- Whether some list of events leads from a new host to this one.
pub record IsReachable (h : Host) : Type 0 where
  pub first : Host
  pub events : List Event
  pub new : IsNewHost first
  pub occurred : OccurAll first events h
