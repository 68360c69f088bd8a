-- Inputs and tasks as events of the rule. What a label saw is true, and stays true.
use Rattle.std.specs.Prelude.{◌≡◌, ◌<◌, ◌+◌, ℕ, true, false, Some}
use Rattle.process_rule.specs.Kernel.{Process, IsFreeNumber}
use Rattle.process_rule.specs.Supervisor.{InstanceState, Host}
use Rattle.process_rule.specs.Events.{Event, after_event, May, IsReachable}
use Rattle.process_rule.specs.Events.Event.{Begin, Forget, Kill, Reap, Report}
use Rattle.process_rule.specs.Progress.{OnlyLeader}
use Rattle.process_keeper.specs.Inputs.{is_accepted, after_input}
use Rattle.process_keeper.specs.Renewal.{is_idle, new_lifecycle}
use Rattle.process_keeper.specs.Sight.{service, IsTrueOf}
use Rattle.process_keeper.specs.Doing.{MayDo}
use Rattle.process_keeper.specs.declared.input.Input.{Input}
use Rattle.process_keeper.specs.declared.input.Input.TheVariants.{Started, Stopped, Shortened, Begun, Exited, Scanned, Reported, Cleared}
use Rattle.process_keeper.specs.declared.lifecycle.Lifecycle.{Lifecycle}
use Rattle.process_keeper.specs.declared.scan.Scan.TheVariants.{Nothing}
use Rattle.process_keeper.specs.declared.task.Task.TheVariants.{Fork, Report as ToReport, Ask, Kill as ToKill, Reap as ToReap}

-- Whether a caller's input is true: what it says of the host is so.
abbrev pub IsSeen : Host → ℕ → Lifecycle → Input → Type 0
IsSeen h k p (Started g) = (g ≡ h.next) × (g < h.file)
IsSeen h k p (Stopped at) = (n : ℕ) × (at ≡ h.now + n)
IsSeen h k p (Shortened at) = (n : ℕ) × (at ≡ h.now + n)
IsSeen h k p (Begun n) = IsFreeNumber h.processes n
IsSeen h k p Exited = (i : InstanceState) → (service p).instance ≡ Some i → (r : Process) → h.processes i.leader ≡ Some r → r.alive ≡ false
IsSeen h k p (Scanned Nothing) = (i : InstanceState) → (service p).instance ≡ Some i → OnlyLeader h k i.leader
IsSeen h k p (Reported at) = at ≡ h.now
IsSeen h k p Cleared = (q : ℕ) (s : Process) → h.processes q ≡ Some s → s.found ≡ true → s.label ≡ k → ⊥
IsSeen h k p _ = Unit {0}

-- A law: an accepted input that is true is an event of the rule, or changes nothing there. Afterwards the label is right again.
pub record IsEventOf (h : Host) (k : ℕ) (p : Lifecycle) : Type 0 where
  pub event : Event
  pub may : May h event
  pub true_of : IsTrueOf (after_event h event) k p
  pub others : (j : ℕ) → (j ≡ k → ⊥) → (after_event h event).services j ≡ h.services j

abbrev pub InputsAreEvents : Type 0
InputsAreEvents =
    (h : Host) (k : ℕ) (p : Lifecycle) (input : Input) → IsReachable h → IsTrueOf h k p → is_accepted p input ≡ true → IsSeen h k p input →
    IsEventOf h k (after_input p input)

-- A law: what a label saw stays true, whatever the kernel and other labels do.
abbrev pub TruthStays : Type 0
TruthStays =
    (h : Host) (e : Event) (k : ℕ) (p : Lifecycle) → IsReachable h → May h e → IsTrueOf h k p →
    (after_event h e).services k ≡ h.services k → IsTrueOf (after_event h e) k p

-- A law: on each reachable host a task may be done, and a signal to a group reaches the label's processes alone.
pub record TasksAreEvents (h : Host) (k : ℕ) (p : Lifecycle) : Type 0 where
  pub fork : (g n : ℕ) → MayDo p h.now (Fork g) → IsFreeNumber h.processes n → May h (Begin k g n)
  pub report : (g : ℕ) (m : MayDo p h.now (ToReport g)) (r : Process) → h.processes m.0.leader ≡ Some r → May h (Report k m.0 r)
  pub ask : (n : ℕ) → MayDo p h.now (Ask n) → (q : ℕ) (r : Process) → h.processes q ≡ Some r → r.group ≡ n → r.label ≡ k
  pub kill : (n : ℕ) → MayDo p h.now (ToKill n) → (q : ℕ) (r : Process) → h.processes q ≡ Some r → r.group ≡ n → May h (Kill q r)
  pub reap : (n : ℕ) (m : MayDo p h.now (ToReap n)) (r : Process) → h.processes m.0.leader ≡ Some r → May h (Reap k m.0 r)

abbrev pub TasksMayBeDone : Type 0
TasksMayBeDone = (h : Host) (k : ℕ) (p : Lifecycle) → IsReachable h → IsTrueOf h k p → TasksAreEvents h k p

-- A law: a label that is idle may be left out, since a scan finds no process of it. Afterwards it is what a new label is, and what other
-- labels saw is true. A label is the same for the rule, whatever number a keeper gives it.
pub record IsLeftOut (h : Host) (k : ℕ) : Type 0 where
  pub may : May h (Forget k)
  pub none : (q : ℕ) (r : Process) → h.processes q ≡ Some r → r.found ≡ true → r.label ≡ k → ⊥
  pub new : IsTrueOf (after_event h (Forget k)) k new_lifecycle
  pub others : (j : ℕ) (p : Lifecycle) → (j ≡ k → ⊥) → IsTrueOf h j p → IsTrueOf (after_event h (Forget k)) j p

abbrev pub IdleMayBeLeftOut : Type 0
IdleMayBeLeftOut = (h : Host) (k : ℕ) (p : Lifecycle) → IsReachable h → IsTrueOf h k p → is_idle p ≡ true → IsLeftOut h k
