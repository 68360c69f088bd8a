-- Supervisors that lack one guard of the rule. Of each, a law is false after a list of events.
use Rattle.std.specs.Prelude.{◌≡◌, ◌⊎◌, ℕ, true, false, List, [], ◌∷◌, Some, None}
use Rattle.history.specs.History.{Path}
use Rattle.process_rule.specs.Kernel.{Process, IsFreeNumber}
use Rattle.process_rule.specs.Supervisor.{InstanceState, Host}
use Rattle.process_rule.specs.Events.{Event, May, IsDue, after_event}
use Rattle.process_rule.specs.Events.Event.{Start, Stop, Shorten, Write, Begin, Report, Kill, Reap, Clear, Vanish}
use Rattle.process_rule.specs.Witness.{new_host}

-- Whether the host is reachable from a new one if events may also happen that `careless` allows.
abbrev pub CarelessOccurs : (Host → Event → Type 0) → Host → Event → Host → Type 0
CarelessOccurs careless h e x = (May h e ⊎ careless h e) × (after_event h e ≡ x)

pub record IsCarelesslyReached (careless : Host → Event → Type 0) (h : Host) : Type 0 where
  pub events : List Event
  pub occurred : Path (CarelessOccurs careless) new_host events h

-- Whether two living instances of label 0 are there, which scans find.
pub record IsDouble (h : Host) : Type 0 where
  pub one : Process
  pub two : Process
  pub numbers : ℕ × ℕ
  pub there : (h.processes numbers.0 ≡ Some one) × (h.processes numbers.1 ≡ Some two)
  pub alive : (one.alive ≡ true) × (two.alive ≡ true)
  pub found : (one.found ≡ true) × (two.found ≡ true)
  pub labels : (one.label ≡ 0) × (two.label ≡ 0)
  pub differ : one.generation ≡ two.generation → ⊥

-- Whether an instance of label 0 isn't due, and its leader was sent SIGKILL.
pub record IsKilledEarly (h : Host) : Type 0 where
  pub instance : InstanceState
  pub runs : (h.services 0).instance ≡ Some instance
  pub leader : Process
  pub there : h.processes instance.leader ≡ Some leader
  pub killed : leader.killed ≡ true
  pub early : IsDue instance h.now → ⊥

-- A leader that exited is reaped at once, though processes of its group are left.
abbrev pub ReapsEarly : Host → Event → Type 0
ReapsEarly h (Vanish q r) = (h.processes q ≡ Some r) × (r.alive ≡ false)
ReapsEarly h _ = ⊥

-- A law: then an instance's group has a living process of another label.
abbrev pub EarlyReapersMiss : Type 0
EarlyReapersMiss =
    (h : Host) × IsCarelesslyReached ReapsEarly h ×
    ((i : InstanceState) × ((h.services 0).instance ≡ Some i) ×
    ((r : Process) × (h.processes i.leader ≡ Some r) × (r.group ≡ i.leader) × (r.alive ≡ true) × (r.label ≡ 1)))

-- A start begins though no scan looked for leftovers.
abbrev pub BeginsUnclean : Host → Event → Type 0
BeginsUnclean h (Begin k g p) = ((h.services k).pending ≡ Some g) × ((h.services k).instance ≡ None) × IsFreeNumber h.processes p
BeginsUnclean h _ = ⊥

-- A start begins though the last instance isn't reaped.
abbrev pub BeginsBeside : Host → Event → Type 0
BeginsBeside h (Begin k g p) = ((h.services k).pending ≡ Some g) × ((h.services k).clean ≡ true) × IsFreeNumber h.processes p
BeginsBeside h _ = ⊥

-- A service is taken for clean though a scan finds leftovers.
abbrev pub ClearsBlindly : Host → Event → Type 0
ClearsBlindly h (Clear k) = Unit {0}
ClearsBlindly h _ = ⊥

-- A leader is reaped though a scan finds others of its instance.
abbrev pub ReapsBlindly : Host → Event → Type 0
ReapsBlindly h (Reap k i r) =
    ((h.services k).instance ≡ Some i) × ((t : ℕ) × (i.deadline ≡ Some t)) × (h.processes i.leader ≡ Some r) × (r.alive ≡ false)
ReapsBlindly h _ = ⊥

-- A law: with any of these four, two instances of one label are alive at once.
pub record CarelessStartsDouble : Type 0 where
  pub unclean : (h : Host) × IsCarelesslyReached BeginsUnclean h × IsDouble h
  pub beside : (h : Host) × IsCarelesslyReached BeginsBeside h × IsDouble h
  pub cleared : (h : Host) × IsCarelesslyReached ClearsBlindly h × IsDouble h
  pub reaped : (h : Host) × IsCarelesslyReached ReapsBlindly h × IsDouble h

-- A start is given a generation that isn't on disk.
abbrev pub StartsUnwritten : Host → Event → Type 0
StartsUnwritten h (Start k) = (h.services k).pending ≡ None
StartsUnwritten h _ = ⊥

-- The file is set to any generation.
abbrev pub WritesBack : Host → Event → Type 0
WritesBack h (Write n) = Unit {0}
WritesBack h _ = ⊥

-- An instance begins for which RS gave no generation.
abbrev pub BeginsUnasked : Host → Event → Type 0
BeginsUnasked h (Begin k g p) = ((h.services k).instance ≡ None) × ((h.services k).clean ≡ true) × IsFreeNumber h.processes p
BeginsUnasked h _ = ⊥

-- A law: with either of the first two a generation is given twice, with the third a generation begins twice.
pub record CarelessGenerationsRepeat : Type 0 where
  pub unwritten : (h : Host) × IsCarelesslyReached StartsUnwritten h × (h.given ≡ 1 ∷ 1 ∷ [])
  pub back : (h : Host) × IsCarelesslyReached WritesBack h × (h.given ≡ 1 ∷ 1 ∷ [])
  pub unasked : (h : Host) × IsCarelesslyReached BeginsUnasked h × (h.begun ≡ 1 ∷ 1 ∷ [])

-- RS is informed of the death of an instance whose leader is alive.
abbrev pub ReportsLiving : Host → Event → Type 0
ReportsLiving h (Report k i r) = ((h.services k).instance ≡ Some i) × (i.deadline ≡ None) × (h.processes i.leader ≡ Some r)
ReportsLiving h _ = ⊥

-- RS is informed of the death of an instance that it stopped, or that was reported.
abbrev pub ReportsAgain : Host → Event → Type 0
ReportsAgain h (Report k i r) = ((h.services k).instance ≡ Some i) × (h.processes i.leader ≡ Some r) × (r.alive ≡ false)
ReportsAgain h _ = ⊥

-- A law: then a reported leader is alive, or a death is reported twice.
pub record CarelessReportsLie : Type 0 where
  pub living : (h : Host) × IsCarelesslyReached ReportsLiving h ×
      ((r : Process) × (h.processes 7 ≡ Some r) × (r.leads ≡ true) × (r.alive ≡ true) × (h.reported ≡ r.generation ∷ []))
  pub again : (h : Host) × IsCarelesslyReached ReportsAgain h × (h.reported ≡ 1 ∷ 1 ∷ [])

-- SIGKILL is sent to a process of an instance that isn't due.
abbrev pub KillsEarly : Host → Event → Type 0
KillsEarly h (Kill q r) = h.processes q ≡ Some r
KillsEarly h _ = ⊥

-- An instance that has a deadline is stopped again.
abbrev pub StopsAgain : Host → Event → Type 0
StopsAgain h (Stop k i n) = (h.services k).instance ≡ Some i
StopsAgain h _ = ⊥

-- A grace period is made longer.
abbrev pub Lengthens : Host → Event → Type 0
Lengthens h (Shorten k i n) = ((h.services k).instance ≡ Some i) × ((t : ℕ) × (i.deadline ≡ Some t))
Lengthens h _ = ⊥

-- A law: with any of these three, an instance that isn't due was sent SIGKILL.
pub record CarelessKillsAreEarly : Type 0 where
  pub early : (h : Host) × IsCarelesslyReached KillsEarly h × IsKilledEarly h
  pub again : (h : Host) × IsCarelesslyReached StopsAgain h × IsKilledEarly h
  pub longer : (h : Host) × IsCarelesslyReached Lengthens h × IsKilledEarly h
