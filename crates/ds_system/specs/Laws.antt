-- The laws of a system over every list of events, with no premise but that its settings were checked.
use Rattle.std.specs.Prelude.{◌≡◌, ℕ, Bool, List, ◌∷◌, ◌++◌, Option, Contains}
use Rattle.ds_names.specs.declared.key.Key.{Key}
use Rattle.ds_entry.specs.Change.{ChangeRecord}
use Rattle.ds_entry.specs.ItemCovers.{AreSingleNumbered}
use Rattle.ds_entry.specs.SingleNumbered.{IsSingleNumbered}
use Rattle.ds_entry.specs.Under.{under, entries_of}
use Rattle.ds_entry.specs.declared.item.Item.TheVariants.{Change as Changed}
use Rattle.ds_pattern.specs.Under.{is_under}
use Rattle.ds_replica.specs.Agreement.{KnowSame}
use Rattle.ds_machine.specs.Reached.{AreExact}
use Rattle.ds_machine.specs.declared.refusal.Refusal.{Refusal}
use Rattle.rs_settings.specs.Settings.{SettingsRecord}
use Rattle.driver_tables.specs.DriverTable.{DriverTable, empty_table}
use Rattle.driver_tables.specs.Run.{Entry as Call, TableRun}
use Rattle.ds_replica.specs.declared.seed.Seed.{Seed}
use Rattle.ds_replica.specs.declared.event.Side.{Side}
use Rattle.ds_replica.specs.declared.event.Holder.{Holder}
use Rattle.ds_replica.specs.declared.event.Holder.TheVariants.{Store, Map}
use Rattle.ds_replica.specs.declared.event.Event.TheVariants.{Deliver}
use Rattle.ds_replica.specs.declared.outcome.Outcome.TheVariants.{Stopped}
use Rattle.ds_replica.specs.World.{held_by}
use Rattle.ds_replica.specs.Known.{Account, MapAccount, known_at}
use Rattle.ds_replica.specs.Fits.{Fits}
use Rattle.ds_replica.specs.CaughtUp.{AreItems, HasAll, HasNothingElse, MapsNameNewest}
use Rattle.ds_replica.specs.Headline.{HoldSame, IsAbout, IsContradiction}
use Rattle.ds_system.specs.declared.event.Table.{Table}
use Rattle.ds_system.specs.System.{System, table_at}
use Rattle.ds_system.specs.Steps.{WorldEvents}
use Rattle.ds_system.specs.Happening.{SystemEntry, SystemRun, all_events}
use Rattle.ds_system.specs.Start.{IsNew, account_since}
use Rattle.ds_system.specs.Numbers.{NumbersAreDrawnOnce}

-- Whether no delivery among these events is stopped because an item contradicts what is held.
abbrev pub NoneIsContradicted : WorldEvents → Type 0
NoneIsContradicted events =
    (front back : WorldEvents) (k : ℕ) (holder : Holder) (count : Option ℕ) (done : ℕ) (fault : Refusal) (owed : ℕ) →
    front ++ (Deliver k holder count, Stopped done fault owed) ∷ back ≡ events → ¬ IsContradiction fault

-- Whether a run of calls led to the table from an empty one, so that all laws of driver tables over runs apply to it.
abbrev pub IsCalled : DriverTable → Type 0
IsCalled t = (calls : List Call) × TableRun empty_table calls t

pub record SystemLaws (account : Account) (entries : List SystemEntry) (t : System) : Type 0 where
  -- the account fits the world
  pub fits : Fits account t.world
  -- what RS and the services made is single-numbered; so is all that Asks ever brought in, all of which was made; and
  -- each number of a service was drawn once
  pub made : IsSingleNumbered t.made
  pub brought : AreSingleNumbered account.brought
  pub own : (c : ChangeRecord) → Contains account.brought (Changed c) → Contains t.made c
  pub drawn : NumbersAreDrawnOnce t.made
  -- what was brought in is exact, and keeps the rules of changes and floors
  pub exact : AreExact account.brought
  pub items : AreItems account.brought
  -- *agreement*: holders that know the same under a query hold the same under it
  pub agree : (query : Key → Bool) (h i : Holder) → KnowSame query (known_at account h) (known_at account i) → HoldSame t.world query h i
  -- *no stop by clash or owner*
  pub clashes : (c d : ChangeRecord) →
      IsAbout t.world (Changed c) → IsAbout t.world (Changed d) → c.key ≡ d.key → (c.owner ≡ d.owner) × (c.version ≡ d.version → c ≡ d)
  pub stops : NoneIsContradicted (all_events entries)
  -- *catch-up*: a map that has all of a store, and nothing else, holds exactly what the store holds under its query
  pub catch_up : (j : ℕ) (m : MapAccount) (side : Side) → HasAll account j m side → HasNothingElse account m side →
      (held_by t.world (Map j) ≡ under (is_under m.query) (held_by t.world (Store side))) ×
      (entries_of (held_by t.world (Map j)) ≡ entries_of (under (is_under m.query) (held_by t.world (Store side))))
  -- *no older generation*: the labels of such a map name no older generation
  pub newest : MapsNameNewest account t.world
  -- both tables were reached by calls
  pub tables : (table : Table) → IsCalled (table_at t table)

-- A law: `SystemLaws` holds over every list of events of a new system.
abbrev pub SystemsKeepLaws : Type 0
SystemsKeepLaws =
    (settings : SettingsRecord) (a b : Seed) (next : ℕ) (s t : System) (entries : List SystemEntry) →
    IsNew settings a b next s → SystemRun s entries t →
    SystemLaws (account_since a b entries) entries t
