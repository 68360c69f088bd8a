-- The upgrade of a trace from format 1 to format 2.
use Rattle.std.specs.Prelude.{◌≡◌, ℕ, List, [], ◌++◌, length, Option}
use Rattle.std.specs.Io.KnownBytes.{Appends}
use Rattle.line_io.specs.Lines.{HasLines, joined}
use Rattle.line_io.specs.Streams.{CallsLead, OnlyCalls, HasFailedRead, HasFailedWrite}
use Rattle.line_io.specs.declared.streams.Source.{Ghosts as Reader}
use Rattle.line_io.specs.declared.streams.Sink.{Ghosts as Writer}
use Rattle.trace_walk.specs.declared.header.Format.TheVariants.{One, Two}
use Rattle.trace_walk.specs.declared.header.Header.{Header}
use Rattle.trace_walk.specs.declared.verdict.Verdict.TheVariants as verdicts
use Rattle.trace_walk.specs.Legal.{IsTrace, opened_by}
use Rattle.trace_walk.specs.Text.{TraceEntry, IsHeader, header_text, trace_text}
use Rattle.trace_walk.specs.Upgrade.{Become, IsUpgraded, IsUpgradedBefore, IsUpgradedInPart, IsUpgradedSoFar, upgraded}
use Rattle.trace_walk.specs.Verdict.{IsVerdict}
use Rattle.trace_walk.specs.declared.fault.WalkFault.{WalkFault}
use Rattle.trace_walk.specs.declared.fault.WalkFault.TheVariants as walks
use Rattle.trace_check.specs.declared.upgrading.UpgradeFault.{UpgradeFault}
use Rattle.trace_check.specs.declared.upgrading.UpgradeFault.TheVariants.{IllegalAt, BadLineAt, AlreadyTwo, ReadFault, WriteFault, NoRoom}
use Rattle.trace_walk.specs.declared.walk.Walk.{Walk}
use Rattle.trace_walk.specs.Steps.{WalksAt, first_spot}
use Rattle.trace_walk.specs.Walking.{Spot}

-- The fault of a walk, as one of an upgrade.
abbrev pub upgrade_fault : WalkFault → UpgradeFault
upgrade_fault (walks.IllegalAt number) = IllegalAt number
upgrade_fault (walks.BadLineAt number) = BadLineAt number
upgrade_fault walks.ReadFault = ReadFault
upgrade_fault walks.NoRoom = NoRoom

-- Whether all of the input was written in format 2, with `count` entries.
abbrev pub UpgradesAll : List ℕ → (had has : Option (List ℕ)) → ℕ → Type 0
UpgradesAll bytes had has count =
    (lines : List (List ℕ)) × (output : List ℕ) × HasLines bytes lines × Appends had has output × IsUpgraded (joined lines) output count

-- Whether the first lines are a header of format 2.
pub record BeginsWithTwo (bytes : List ℕ) : Type 0 where
  pub h : Header
  pub two : h.format ≡ Two
  pub is : IsHeader h
  pub front : List (List ℕ)
  pub rest : List (List ℕ)
  pub lines : HasLines bytes (front ++ rest)
  pub text : joined front ≡ header_text h

-- Why the input wasn't written whole, and what was written. For a trace that isn't legal: its verdict, and all entries
-- before the one with the wrong line. For format 2: nothing. For other faults: whole entries of some first lines, or,
-- if the writer failed, a front of these.
abbrev pub Refuses : UpgradeFault → List ℕ → List ℕ → Type 0
Refuses (IllegalAt number) bytes output = IsVerdict bytes (verdicts.IllegalAt number) × IsUpgradedBefore bytes output
Refuses (BadLineAt number) bytes output = IsVerdict bytes (verdicts.BadLineAt number) × IsUpgradedBefore bytes output
Refuses AlreadyTwo bytes output = (output ≡ []) × BeginsWithTwo bytes
Refuses ReadFault bytes output = IsUpgradedSoFar bytes output
Refuses WriteFault bytes output = IsUpgradedInPart bytes output
Refuses NoRoom bytes output = IsUpgradedSoFar bytes output

-- Whether the fault is right, and what was written in format 2 fits it.
abbrev pub UpgradesInPart : List ℕ → (had has : Option (List ℕ)) → UpgradeFault → Type 0
UpgradesInPart bytes had has fault = (output : List ℕ) × Appends had has output × Refuses fault bytes output

-- The cause of a fault, and what was written before it. ReadFault comes only if the last read failed, or 2^32 reads were
-- made; WriteFault only if the last write failed, or 2^64 - 1 were made. Before any other fault no write failed.
abbrev pub BlamesUpgrade : {R W : Type 0} → Reader R → Writer W → UpgradeFault → (old new : R) → (from to : W) → Type 0
BlamesUpgrade r w ReadFault old new from to = HasFailedRead r.reads r.fails old new × OnlyCalls w.writes from to
BlamesUpgrade r w WriteFault old new from to = HasFailedWrite w.writes w.fails from to
BlamesUpgrade r w _ old new from to = OnlyCalls w.writes from to

-- Like `BlamesUpgrade`, whichever reader the reads began with.
abbrev pub BlamesUpgradeOn : {R W : Type 0} → Reader R → Writer W → ℕ → (old new : R) → (from to : W) → UpgradeFault → Type 0
BlamesUpgradeOn {R} r w made old new from to fault =
    (first : R) → CallsLead r.reads made first old → BlamesUpgrade r w fault first new from to

-- ---- on the way

-- Whether the passed front, after this header, is legal, and `output` is that front in format 2, with `count` entries.
pub record Upgrades (b : Spot) (h : Header) (output : List ℕ) (count : ℕ) : Type 0 where
  pub old : List TraceEntry
  pub new : List TraceEntry
  pub one : h.format ≡ One
  pub trace : IsTrace b.front h old b.state
  pub become : Become (opened_by h) old b.state new
  pub written : output ≡ trace_text (upgraded h) new
  pub counted : count ≡ length new

-- The end of an upgrade: all of the input is written.
abbrev pub EndsUpgraded : Walk → Option (List ℕ) → (had has : Option (List ℕ)) → ℕ → Type 0
EndsUpgraded old from had has count =
    (b : Spot) (before : List ℕ) → WalksAt b old from → Upgrades b old.header before 0 →
    (lines : List (List ℕ)) × (more : List ℕ) ×
    HasLines b.bytes lines × Appends had has more × IsUpgraded (joined lines) (before ++ more) count

-- A fault of an upgrade, and what was written of the input.
abbrev pub StopsUpgrading : Walk → Option (List ℕ) → (had has : Option (List ℕ)) → UpgradeFault → Type 0
StopsUpgrading old from had has fault =
    (b : Spot) (before : List ℕ) → WalksAt b old from → Upgrades b old.header before 0 →
    (more : List ℕ) × Appends had has more × Refuses fault b.bytes (before ++ more)

-- Like `EndsUpgraded`, when only the header was read.
abbrev pub EndsAfterHeader : Walk → Option (List ℕ) → (had has : Option (List ℕ)) → ℕ → Type 0
EndsAfterHeader old from had has count =
    (bytes : List ℕ) → WalksAt (first_spot bytes old.header) old from → UpgradesAll bytes had has count

abbrev pub StopsAfterHeader : Walk → Option (List ℕ) → (had has : Option (List ℕ)) → UpgradeFault → Type 0
StopsAfterHeader old from had has fault =
    (bytes : List ℕ) → WalksAt (first_spot bytes old.header) old from → UpgradesInPart bytes had has fault
