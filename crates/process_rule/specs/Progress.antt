-- Laws of lists of events: which facts stay true, and which events remain possible.
use Rattle.std.specs.Prelude.{◌≡◌, ℕ, ◌+◌, ◌≤◌, ◌==◌, Bool, true, false, List, Some, None}
use Rattle.std.specs.List.{list_any}
use Rattle.process_rule.specs.Kernel.{Process, IsFreeNumber}
use Rattle.process_rule.specs.Supervisor.{InstanceState, Host}
use Rattle.process_rule.specs.Events.{Event, May, OccurAll, IsReachable, after_event}
use Rattle.process_rule.specs.Events.Event.{Cancel, Begin, Stop, Shorten, Vanish, Reap, Forget, Restart}

-- Whether a scan of the label finds at most the process with this number.
abbrev pub OnlyLeader : Host → ℕ → ℕ → Type 0
OnlyLeader h k n = (q : ℕ) (s : Process) → h.processes q ≡ Some s → s.found ≡ true → s.label ≡ k → q ≡ n

-- Whether SIGKILL was sent to each process of the label that a scan finds.
abbrev pub AllKilled : Host → ℕ → Type 0
AllKilled h k = (q : ℕ) (s : Process) → h.processes q ≡ Some s → s.found ≡ true → s.label ≡ k → s.killed ≡ true

-- A law: a scan that found only the leader, which had exited, stays true. So the leader may be reaped at any time after the scan.
abbrev pub EmptyStays : Type 0
EmptyStays =
    (h : Host) (e : Event) (k : ℕ) (i : InstanceState) (r : Process) → (h.services k).instance ≡ Some i → h.processes i.leader ≡ Some r →
    r.alive ≡ false → OnlyLeader h k i.leader → May h e → OnlyLeader (after_event h e) k i.leader

-- A law: a process that exited stays at its number until it is reaped, and no other process has the number meanwhile.
abbrev pub DeadStays : Type 0
DeadStays =
    (h : Host) (e : Event) (q : ℕ) (r : Process) → h.processes q ≡ Some r → r.alive ≡ false → May h e → (s : Process) →
    (after_event h e).processes q ≡ Some s → s.alive ≡ false

-- A law: once SIGKILL was sent to all of an instance, a scan finds no process to which it wasn't.
abbrev pub KilledStays : Type 0
KilledStays =
    (h : Host) (e : Event) (k : ℕ) (i : InstanceState) → (h.services k).instance ≡ Some i → AllKilled h k → May h e →
    AllKilled (after_event h e) k

-- Whether nothing is under way in the kernel: each process that was sent SIGKILL has exited, and others' processes that exited are reaped.
pub record IsQuiet (h : Host) : Type 0 where
  pub exited : (q : ℕ) (s : Process) → h.processes q ≡ Some s → s.killed ≡ true → s.alive ≡ false
  pub reaped : (q : ℕ) (s : Process) → h.processes q ≡ Some s → May h (Vanish q s) → ⊥

-- A law: once nothing is under way, an instance all of whose processes were sent SIGKILL can be reaped.
abbrev pub NothingStays : Type 0
NothingStays =
    (h : Host) → IsReachable h → (k : ℕ) (i : InstanceState) → (h.services k).instance ≡ Some i → AllKilled h k → IsQuiet h →
    (r : Process) × May h (Reap k i r)

-- Whether the event ends a grace period of this label early.
abbrev pub cuts : ℕ → Event → Bool
cuts k (Shorten j i n) = j == k
cuts k Restart = true
cuts k _ = false

-- A law: a grace period belongs to the whole instance. No process of it that a scan finds is sent SIGKILL before that has passed, even
-- if the leader has exited, unless RS shortens it or the supervisor is killed.
abbrev pub GraceLasts : Type 0
GraceLasts =
    (h x : Host) (later : List Event) (k n : ℕ) (i : InstanceState) → IsReachable h → May h (Stop k i n) →
    OccurAll (after_event h (Stop k i n)) later x → list_any (cuts k) later ≡ false → (q : ℕ) (s : Process) →
    x.processes q ≡ Some s → s.found ≡ true → s.label ≡ k → s.generation ≡ i.generation → s.killed ≡ true → h.now + n ≤ x.now

-- Whether the event ends the wait of a start of this label.
abbrev pub ends_wait : ℕ → Event → Bool
ends_wait k (Begin j g p) = j == k
ends_wait k (Cancel j) = j == k
ends_wait k (Forget j) = j == k
ends_wait k Restart = true
ends_wait k _ = false

-- A law: a start stays pending, however often it fails, until its leader is forked, RS cancels it, its label is left out, or the
-- supervisor is killed.
abbrev pub PendingStays : Type 0
PendingStays =
    (h x : Host) (later : List Event) (k g : ℕ) → (h.services k).pending ≡ Some g → OccurAll h later x →
    list_any (ends_wait k) later ≡ false → (x.services k).pending ≡ Some g

-- A law: a pending start waits for nothing but the last instance, which was stopped or reported, and a scan for leftovers. Once that is
-- reaped and a scan found none, the start may begin with any free number.
pub record StartGoesOn (h : Host) (k g : ℕ) : Type 0 where
  pub beside : (i : InstanceState) → (h.services k).instance ≡ Some i → i.deadline ≡ None → ⊥
  pub begins : (h.services k).instance ≡ None → (h.services k).clean ≡ true → (p : ℕ) → IsFreeNumber h.processes p → May h (Begin k g p)

abbrev pub StartsGoOn : Type 0
StartsGoOn = (h : Host) → IsReachable h → (k g : ℕ) → (h.services k).pending ≡ Some g → StartGoesOn h k g
