-- The statements over every list of events: an account fits, and two holders that know the same hold the same.
use Rattle.std.specs.Prelude.{◌≡◌, ◌⊎◌, ℕ, Bool, List, Option, Contains}
use Rattle.ds_names.specs.declared.key.Key.{Key}
use Rattle.ds_entry.specs.Change.{ChangeRecord}
use Rattle.ds_entry.specs.ItemCovers.{AreSingleNumbered}
use Rattle.ds_entry.specs.declared.item.Item.{Item}
use Rattle.ds_entry.specs.declared.item.Item.TheVariants.{Change as Changed}
use Rattle.ds_held.specs.Limits.{LimitsRecord, IsLimits}
use Rattle.ds_replica.specs.Agreement.{KnowSame}
use Rattle.ds_machine.specs.Reached.{AreExact}
use Rattle.ds_machine.specs.declared.refusal.Refusal.{Refusal}
use Rattle.ds_machine.specs.declared.refusal.Refusal.TheVariants.{NotOwner, Clash}
use Rattle.ds_replica.specs.declared.seed.Seed.{Seed}
use Rattle.ds_replica.specs.declared.event.Holder.{Holder}
use Rattle.ds_replica.specs.declared.event.Event.{Event}
use Rattle.ds_replica.specs.declared.event.Event.TheVariants.{Deliver}
use Rattle.ds_replica.specs.declared.outcome.Outcome.{Outcome}
use Rattle.ds_replica.specs.declared.outcome.Outcome.TheVariants.{Stopped}
use Rattle.ds_replica.specs.World.{World, held_by, new_world}
use Rattle.ds_replica.specs.Happens.{Happens, HappenAll}
use Rattle.ds_replica.specs.Known.{Account, known_at, new_account, extended_all}
use Rattle.ds_replica.specs.Fits.{Fits}
use Rattle.ds_entry.specs.Under.{under, entries_of}

-- A law: the account in which nobody knows anything fits a world that was just made.
abbrev pub AccountFitsAtStart : Type 0
AccountFitsAtStart = (a b : Seed) (limits : LimitsRecord) → IsLimits limits → Fits (new_account a b limits) (new_world a b limits)

-- A law: after any events, the account that they extend fits the world that they leave.
abbrev pub EventsFit : Type 0
EventsFit =
    (account : Account) (old new : World) (events : List (Event × Outcome)) → Fits account old → HappenAll old events new →
    Fits (extended_all account events) new

-- Whether both hold the same items under the query, with tombstones, versions and floors, and so have equal entries.
abbrev pub HoldSame : World → (Key → Bool) → Holder → Holder → Type 0
HoldSame w query h i =
    (under query (held_by w h) ≡ under query (held_by w i)) ×
    (entries_of (under query (held_by w h)) ≡ entries_of (under query (held_by w i)))

-- A law: holders that know the same under a query hold the same under it, if everything brought is exact: no two
-- changes of one key, owner and version have two bodies.
abbrev pub EqualWhereKnown : Type 0
EqualWhereKnown =
    (account : Account) (w : World) (query : Key → Bool) (h i : Holder) → Fits account w → AreExact account.brought →
    KnowSame query (known_at account h) (known_at account i) → HoldSame w query h i

-- A law: so it is after any events of a new world, in any order, with any repeats, coalescing and exchanges.
abbrev pub EqualOverEvents : Type 0
EqualOverEvents =
    (a b : Seed) (limits : LimitsRecord) (w : World) (events : List (Event × Outcome)) (query : Key → Bool) (h i : Holder) →
    IsLimits limits → HappenAll (new_world a b limits) events w →
    let account = extended_all (new_account a b limits) events in
    AreExact account.brought → KnowSame query (known_at account h) (known_at account i) → HoldSame w query h i

-- The item is held somewhere, or is in a message.
abbrev pub IsAbout : World → Item → Type 0
IsAbout w i = ((h : Holder) × Contains (held_by w h) i) ⊎ ((items : List Item) × Contains w.messages items × Contains items i)

-- A law: no two changes of one key that are held or can be delivered have two owners, or two bodies at one version, if
-- everything brought is single-numbered: exact, and each key has one owner.
abbrev pub NothingClashesInWorlds : Type 0
NothingClashesInWorlds =
    (account : Account) (w : World) (c d : ChangeRecord) → Fits account w → AreSingleNumbered account.brought → IsAbout w (Changed c) →
    IsAbout w (Changed d) → c.key ≡ d.key →
    (c.owner ≡ d.owner) × (c.version ≡ d.version → c ≡ d)

-- The fault means that an item contradicts what is held.
abbrev pub IsContradiction : Refusal → Type 0
IsContradiction NotOwner = Unit {0}
IsContradiction (Clash v) = Unit {0}
IsContradiction _ = ⊥

-- A law: no delivery stops by such a fault.
abbrev pub NothingStopsInWorlds : Type 0
NothingStopsInWorlds =
    (account : Account) (w new : World) (k : ℕ) (holder : Holder) (count : Option ℕ) (done : ℕ) (fault : Refusal) (owed : ℕ) →
    Fits account w → AreSingleNumbered account.brought →
    Happens w (Deliver k holder count) (Stopped done fault owed) new → ¬ IsContradiction fault
