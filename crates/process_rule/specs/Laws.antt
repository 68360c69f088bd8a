-- Laws of each reachable host: whatever happened, and however often the supervisor was killed.
use Rattle.std.specs.Prelude.{◌≡◌, ℕ, ◌<◌, Bool, true, false, Option, Some, Contains}
use Rattle.process_rule.specs.Kernel.{Process, IsOnce}
use Rattle.process_rule.specs.Supervisor.{InstanceState, Host}
use Rattle.process_rule.specs.Events.{Event, May, IsReachable, IsDue, after_event}
use Rattle.process_rule.specs.Events.Event.{Begin, Fail, Forget, Kill, Start, Write}

-- A law: all processes of a label that a scan finds are of one instance.
abbrev pub OneInstanceAtATime : Type 0
OneInstanceAtATime =
    (h : Host) → IsReachable h → (q p : ℕ) (r s : Process) → h.processes q ≡ Some r → h.processes p ≡ Some s → r.found ≡ true →
    s.found ≡ true → r.label ≡ s.label → r.generation ≡ s.generation

-- A law: when an instance begins, a scan finds no process of its label, not even one that isn't reaped.
abbrev pub BeginsAlone : Type 0
BeginsAlone =
    (h : Host) → IsReachable h → (k g p : ℕ) → May h (Begin k g p) → (q : ℕ) (r : Process) → h.processes q ≡ Some r →
    r.found ≡ true → r.label ≡ k → ⊥

-- A law: when a label is left out, a scan finds no process of it.
abbrev pub ForgetsNone : Type 0
ForgetsNone =
    (h : Host) → IsReachable h → (k : ℕ) → May h (Forget k) → (q : ℕ) (r : Process) → h.processes q ≡ Some r → r.found ≡ true →
    r.label ≡ k → ⊥

-- A law: the file is ahead of each generation that was given, and so of each that began. None is given twice, and none begins twice.
pub record AreWritten (h : Host) : Type 0 where
  pub given : (g : ℕ) → Contains h.given g → g < h.file
  pub begun : (g : ℕ) → Contains h.begun g → Contains h.given g
  pub given_once : IsOnce h.given
  pub begun_once : IsOnce h.begun

abbrev pub GenerationsAreWritten : Type 0
GenerationsAreWritten = (h : Host) → IsReachable h → AreWritten h

-- A law: an instance's number is its leader's, and each process in its group is of it. So a signal to either reaches no other instance,
-- though the kernel gives numbers again.
pub record IsAimed (h : Host) (k : ℕ) (i : InstanceState) : Type 0 where
  pub leader : (r : Process) × (h.processes i.leader ≡ Some r) × (r.leads ≡ true) × (r.generation ≡ i.generation)
  pub group : (q : ℕ) (r : Process) → h.processes q ≡ Some r → r.group ≡ i.leader →
      (r.label ≡ k) × (r.generation ≡ i.generation) × (r.found ≡ true)

abbrev pub SignalsAreAimed : Type 0
SignalsAreAimed = (h : Host) → IsReachable h → (k : ℕ) (i : InstanceState) → (h.services k).instance ≡ Some i → IsAimed h k i

-- A law: SIGKILL may be sent to the whole group of an instance that is due.
abbrev pub GroupsMayBeKilled : Type 0
GroupsMayBeKilled =
    (h : Host) → IsReachable h → (k : ℕ) (i : InstanceState) → (h.services k).instance ≡ Some i → IsDue i h.now → (q : ℕ) (r : Process) →
    h.processes q ≡ Some r → r.group ≡ i.leader → May h (Kill q r)

-- A law: SIGKILL was sent to no process that a scan finds of an instance that is up, or in its grace period.
abbrev pub GraceIsKept : Type 0
GraceIsKept =
    (h : Host) → IsReachable h → (k : ℕ) (i : InstanceState) → (h.services k).instance ≡ Some i → (q : ℕ) (r : Process) →
    h.processes q ≡ Some r → r.found ≡ true → r.label ≡ k → r.killed ≡ true → IsDue i h.now

-- A law: a death is reported once, and of an instance that began and whose leader isn't alive.
pub record AreDeaths (h : Host) : Type 0 where
  pub once : IsOnce h.reported
  pub begun : (g : ℕ) → Contains h.reported g → Contains h.begun g
  pub dead : (q : ℕ) (r : Process) → h.processes q ≡ Some r → r.leads ≡ true → Contains h.reported r.generation → r.alive ≡ false

abbrev pub DeathsAreTrue : Type 0
DeathsAreTrue = (h : Host) → IsReachable h → AreDeaths h

-- A law: a start that fails for lack of a process, a socket or a descriptor changes nothing, and isn't a death.
abbrev pub FailuresChangeNothing : Type 0
FailuresChangeNothing = (h : Host) (k : ℕ) → after_event h (Fail k) ≡ h

-- Whether the event waits for the file, or for a start that is pending.
abbrev pub waits : Event → Bool
waits (Start k) = true
waits (Begin k g p) = true
waits (Write n) = true
waits _ = false

-- The host with other starts pending, and another generation in the file.
abbrev pub held_back : Host → (ℕ → Option ℕ) → ℕ → Host
held_back h pending file = record h { services = λ k. record (h.services k) { pending = pending k }; file = file }

-- A law: nothing else waits: no stop, signal, report, reaping or scan depends on pending starts, or on the file.
abbrev pub OnlyStartsWait : Type 0
OnlyStartsWait =
    (h : Host) (pending : ℕ → Option ℕ) (file : ℕ) (e : Event) → waits e ≡ false → May h e → May (held_back h pending file) e
