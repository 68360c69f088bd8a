-- What happened in a system since it was new, and the laws that hold of all of it.
use Rattle.std.specs.Prelude.{◌≡◌, ℕ, true, ◌<◌, ◌≤◌, List, [], ◌∷◌, ◌++◌, length, map}
use Rattle.rs_settings.specs.Settings.{SettingsRecord}
use Rattle.driver_tables.specs.Driver.{has_label}
use Rattle.ds_held.specs.Limits.{larger}
use Rattle.ds_replica.specs.declared.seed.Seed.{Seed}
use Rattle.ds_replica.specs.Known.{Account, new_account, extended_all}
use Rattle.ds_world.specs.declared.fault.WorldFault.{WorldFault}
use Rattle.ds_world.specs.declared.fault.WorldFault.TheVariants.{TooMany, NoRoom}
use Rattle.ds_world.specs.World.{WorldRecord}
use Rattle.ds_world.specs.Run.{most_events}
use Rattle.ds_world.specs.Account.{TurnsAreRun}
use Rattle.ds_world.specs.Told.{AreTold, RepliesAreKept, MessagesStay}
use Rattle.ds_world.specs.Laws.{CameSince, Laws, LawsHold}
use Rattle.ds_system.specs.declared.event.SystemEvent.{SystemEvent}
use Rattle.ds_system.specs.declared.outcome.SystemOutcome.{SystemOutcome}
use Rattle.ds_system.specs.System.{System}
use Rattle.ds_system.specs.Steps.{WorldEvents}
use Rattle.ds_system.specs.Happening.{SystemDoes, SystemEntry, SystemRun, all_events}
use Rattle.ds_system.specs.Start.{IsNew, two_maps, account_since}
use Rattle.ds_system.specs.Laws.{SystemLaws}
use Rattle.ds_system.specs.Sending.{sent_over, TurnsAreRight}
use Rattle.ds_system.specs.Recovery.{ServesInstances}
use Rattle.ds_system.specs.Stands.{SystemRecord, SystemStands}

-- ---- a list of events

-- The entries are of these events with these outcomes.
pub record AreEntriesOf (events : List SystemEvent) (outcomes : List SystemOutcome) (entries : List SystemEntry) : Type 0 where
  pub events_are : map (λ (e : SystemEntry). e.event) entries ≡ events
  pub outcomes_are : map (λ (e : SystemEntry). e.outcome) entries ≡ outcomes

-- The events lead in order, with these outcomes, from each system that the old value stands for to one that the new
-- value stands for, and the world reports all of its own events among them as a world does.
abbrev pub SystemRunLeads : List SystemEvent → List SystemOutcome → SystemRecord → SystemRecord → Type 0
SystemRunLeads events outcomes old new =
    (s : System) → SystemStands old s →
    (t : System) × (entries : List SystemEntry) × AreEntriesOf events outcomes entries × SystemRun s entries t × SystemStands new t ×
    AreTold old.world (all_events entries) new.world

-- What a run of a world says of its events, their outcomes and its messages.
pub record WorldRan (old : WorldRecord) (events : WorldEvents) (new : WorldRecord) : Type 0 where
  pub told : AreTold old events new
  pub replies : RepliesAreKept old events new
  pub messages : MessagesStay old new
  pub laws : LawsHold old events new
  pub turns : TurnsAreRun old events new

-- Why a run is refused; NoRoom only if the events aren't too many.
abbrev pub IsSystemRunFault : WorldFault → List SystemEvent → Type 0
IsSystemRunFault TooMany events = most_events < length events
IsSystemRunFault NoRoom events = length events ≤ most_events

-- ---- since a system was new

-- A new system, all that happened in it since, and the system that this led to.
pub record SystemPast : Type 0 where
  pub settings : SettingsRecord
  pub a : Seed
  pub b : Seed
  pub next : ℕ
  pub start : System
  pub is_new : IsNew settings a b next start
  pub entries : List SystemEntry
  pub now : System
  pub run : SystemRun start entries now

-- The account of a new system's world: two empty stores, and both servers' maps.
abbrev pub account_begun : Seed → Seed → Account
account_begun a b = extended_all (new_account a b larger) two_maps

-- The value stands for the system that the past led to, and its world came by the past's events.
pub record IsPastOf (past : SystemPast) (value : SystemRecord) : Type 0 where
  pub stands : SystemStands value past.now
  pub came : CameSince (account_begun past.a past.b) (all_events past.entries) value.world

-- The value stands for a new system of these settings, seeds and first generation.
pub record IsJustNew (settings : SettingsRecord) (a b : Seed) (next : ℕ) (value : SystemRecord) : Type 0 where
  pub past : SystemPast
  pub settings_are : past.settings ≡ settings
  pub a_is : past.a ≡ a
  pub b_is : past.b ≡ b
  pub next_is : past.next ≡ next
  pub none : past.entries ≡ []
  pub is : IsPastOf past value

-- The later past is this one, followed by these entries.
pub record PastGrowsBy (past : SystemPast) (entries : List SystemEntry) (later : SystemPast) : Type 0 where
  pub settings_are : later.settings ≡ past.settings
  pub a_is : later.a ≡ past.a
  pub b_is : later.b ≡ past.b
  pub next_is : later.next ≡ past.next
  pub start_is : later.start ≡ past.start
  pub entries_are : later.entries ≡ past.entries ++ entries

-- The entry is a step from a system that the earlier entries led to, to one from which the later entries lead on; its
-- turns are right, after all that each table sent earlier; and the servers that followed their maps to the end are served
-- by RS's running instances.
pub record IsRightAmong (past : SystemPast) (front : List SystemEntry) (entry : SystemEntry) (back : List SystemEntry) : Type 0 where
  pub before : System
  pub after : System
  pub led : SystemRun past.start front before
  pub does : SystemDoes before entry.event entry.outcome entry.steps after
  pub leads : SystemRun after back past.now
  pub right : TurnsAreRight before entry (sent_over front) after
  pub served : ServesInstances (account_since past.a past.b front) before entry after

-- The laws of systems hold of all that happened: those of what is held, no send to an older generation at any turn of
-- either table, the driver that each turn leaves, and no label has units at both servers.
pub record HoldsOfPast (past : SystemPast) : Type 0 where
  pub laws : SystemLaws (account_since past.a past.b past.entries) past.entries past.now
  pub turns : (front back : List SystemEntry) (entry : SystemEntry) →
      past.entries ≡ front ++ entry ∷ back → IsRightAmong past front entry back
  pub apart : (label : List ℕ) → has_label past.now.file.units label ≡ true → has_label past.now.net.units label ≡ true → ⊥

-- Whether these events, with these outcomes, continued the past to that of the new value; the world ran its own events
-- among them; and the laws of systems and of worlds hold of the whole past, from the first event on. So what snapshots,
-- journals, pages and checks of any run brought is whole, as the laws of worlds say, and by the laws of systems nothing
-- else is needed for *catch-up* and *no older generation*.
pub record LawfulSince (past : SystemPast) (events : List SystemEvent) (outcomes : List SystemOutcome)
    (old new : SystemRecord) : Type 0 where
  pub entries : List SystemEntry
  pub are : AreEntriesOf events outcomes entries
  pub ran : WorldRan old.world (all_events entries) new.world
  pub later : SystemPast
  pub goes_on : PastGrowsBy past entries later
  pub is : IsPastOf later new
  pub holds : HoldsOfPast later
  pub world : Laws (account_begun later.a later.b) (all_events later.entries) new.world

-- Whether `LawfulSince` holds for every past that the old value may have.
abbrev pub SystemLawsHold : List SystemEvent → List SystemOutcome → SystemRecord → SystemRecord → Type 0
SystemLawsHold events outcomes old new = (past : SystemPast) → IsPastOf past old → LawfulSince past events outcomes old new
