-- What accounts say about a world's value: the headline's statements in terms of what callers see.
use Rattle.std.specs.Prelude.{◌≡◌, ◌⊎◌, ℕ, ◌≤◌, Bool, true, false, List, ◌∷◌, ◌++◌, Option, Some, Contains}
use Rattle.std.specs.List.{slice_get}
use Rattle.ds_names.specs.declared.key.Key.{Key}
use Rattle.ds_entry.specs.Change.{ChangeRecord}
use Rattle.ds_entry.specs.Void.{voids}
use Rattle.ds_entry.specs.ItemCovers.{AreSingleNumbered}
use Rattle.ds_entry.specs.declared.floor.Floor.{Floor}
use Rattle.ds_entry.specs.declared.item.Item.{Item}
use Rattle.ds_entry.specs.declared.item.Item.TheVariants.{Change as Changed, Floor as Floored}
use Rattle.ds_join.specs.ItemTop.{CoversAll}
use Rattle.ds_feed.specs.Feed.{position}
use Rattle.ds_pattern.specs.Under.{is_under}
use Rattle.ds_submap.specs.Map.{SubMapRecord, endpoint_of_label}
use Rattle.ds_machine.specs.Machine.{Run}
use Rattle.ds_machine.specs.Reached.{AreExact}
use Rattle.ds_machine.specs.declared.command.Command.{Command}
use Rattle.ds_machine.specs.declared.reply.Reply.{Reply}
use Rattle.ds_machine.specs.declared.refusal.Refusal.{Refusal}
use Rattle.ds_content.specs.Stands as contents
use Rattle.ds_replica.specs.Agreement.{KnowSame}
use Rattle.ds_replica.specs.Labels.{IsNewest}
use Rattle.ds_replica.specs.Sent.{Sent}
use Rattle.ds_replica.specs.Whole.{IsWhole}
use Rattle.ds_replica.specs.declared.event.Side.{Side}
use Rattle.ds_replica.specs.declared.event.Holder.{Holder}
use Rattle.ds_replica.specs.declared.event.Holder.TheVariants.{Store, Map}
use Rattle.ds_replica.specs.declared.event.Event.{Event}
use Rattle.ds_replica.specs.declared.event.Event.TheVariants.{Deliver}
use Rattle.ds_replica.specs.declared.outcome.Outcome.{Outcome}
use Rattle.ds_replica.specs.declared.outcome.Outcome.TheVariants.{Stopped}
use Rattle.ds_replica.specs.World.{World, store_at}
use Rattle.ds_replica.specs.Known.{MapAccount, Account, store_of, known_at, extended_all}
use Rattle.ds_replica.specs.Fits.{Fits}
use Rattle.ds_replica.specs.Headline.{IsContradiction}
use Rattle.ds_replica.specs.CaughtUp.{HasAll, HasNothingElse, AreItems}
use Rattle.ds_replica.specs.Turns.{Stays}
use Rattle.ds_world.specs.World.{WorldRecord, held_in, store_in, kept_items, WorldStands}
use Rattle.ds_names.specs.Key.{label_key}
use Rattle.ds_entry.specs.Under.{under, entries_of}

-- Whether the account fits a world that the value stands for.
abbrev pub IsFor : Account → WorldRecord → Type 0
IsFor account value = (w : World) × WorldStands value w × Fits account w

-- The promise of *agreement*: holders that know the same under a query hold the same under it, tombstones, versions and
-- floors included, and so have equal entries, if everything brought is exact.
abbrev pub Agrees : Account → WorldRecord → Type 0
Agrees account value =
    (query : Key → Bool) (h i : Holder) → AreExact account.brought → KnowSame query (known_at account h) (known_at account i) →
    (under query (held_in value h) ≡ under query (held_in value i)) ×
    (entries_of (under query (held_in value h)) ≡ entries_of (under query (held_in value i)))

-- The promise of *catch-up*: a map that has all of a store, and nothing else, holds exactly what the store holds under
-- its query, if everything brought is exact.
abbrev pub CatchesUp : Account → WorldRecord → Type 0
CatchesUp account value =
    (j : ℕ) (m : MapAccount) (side : Side) → AreExact account.brought → HasAll account j m side → HasNothingElse account m side →
    (held_in value (Map j) ≡ under (is_under m.query) (held_in value (Store side))) ×
    (entries_of (held_in value (Map j)) ≡ entries_of (under (is_under m.query) (held_in value (Store side))))

-- Whether a map that has all of a store, and maybe more, holds at least the store's version of each key under its
-- query.
abbrev pub KeepsUp : Account → WorldRecord → Type 0
KeepsUp account value =
    (j : ℕ) (m : MapAccount) (side : Side) → HasAll account j m side →
    CoversAll (held_in value (Map j)) (under (is_under m.query) (held_in value (Store side)))

-- The promise of *no older generation*: for each label under such a map's query, the map returns the endpoint of the
-- greatest generation that the store knows, or none if that one has ended. Exactness isn't needed.
abbrev pub NamesNewest : Account → WorldRecord → Type 0
NamesNewest account value =
    (j : ℕ) (m : MapAccount) (n : SubMapRecord) (side : Side) (name : List ℕ) → slice_get value.maps j ≡ Some n →
    AreItems account.brought → HasAll account j m side → HasNothingElse account m side →
    is_under m.query (label_key name) ≡ true → IsNewest (store_of account side).known name (endpoint_of_label n.held name)

-- Whether the item is held by a store or a map, or is among the items of a message.
abbrev pub IsFoundIn : WorldRecord → Item → Type 0
IsFoundIn value i =
    ((h : Holder) × Contains (held_in value h) i) ⊎
    ((k : ℕ) × (items : List Item) × (kept_items value.messages k ≡ Some items) × Contains items i)

-- The promise of *no stop by clash or owner*: no two changes of one key that are held or can be delivered have two
-- owners, or two bodies at one version, if everything brought is single-numbered.
abbrev pub NothingClashes : Account → WorldRecord → Type 0
NothingClashes account value =
    (c d : ChangeRecord) → AreSingleNumbered account.brought → IsFoundIn value (Changed c) → IsFoundIn value (Changed d) → c.key ≡ d.key →
    (c.owner ≡ d.owner) × (c.version ≡ d.version → c ≡ d)

-- Whether no delivery among these events stops by such a fault.
abbrev pub NothingStops : Account → List (Event × Outcome) → Type 0
NothingStops account events =
    (before since : List (Event × Outcome)) (k : ℕ) (holder : Holder) (count : Option ℕ) (done : ℕ) (fault : Refusal) (owed : ℕ) →
    before ++ (Deliver k holder count, Stopped done fault owed) ∷ since ≡ events →
    AreSingleNumbered (extended_all account before).brought → ¬ IsContradiction fault

-- The promise of *floors*: a holder that knows a floor holds nothing that the floor makes void.
abbrev pub NothingBelowFloors : Account → WorldRecord → Type 0
NothingBelowFloors account value =
    (h : Holder) (f : Floor) (c : ChangeRecord) → Contains (known_at account h) (Floored f) → Contains (held_in value h) (Changed c) →
    voids f c ≡ false

-- The promise of *floors* over events: they bring in nothing that a floor known before them makes void, unless they
-- empty the holder.
abbrev pub FloorsStand : Account → List (Event × Outcome) → WorldRecord → Type 0
FloorsStand account events new =
    (h : Holder) (f : Floor) (c : ChangeRecord) → Stays h events → Contains (known_at account h) (Floored f) →
    Contains (held_in new h) (Changed c) → voids f c ≡ false

-- The promise of *wholeness*: what is whole for a store stays whole over these events, unless they restart the store.
abbrev pub StaysWhole : Account → List (Event × Outcome) → Type 0
StaysWhole account events =
    (side : Side) (query : Key → Bool) (items : List Sent) (r : ℕ) → Stays (Store side) events →
    r ≤ position (store_of account side).state.feed → IsWhole (store_of account side).state.feed query items r →
    IsWhole (store_of (extended_all account events) side).state.feed query items r

-- Whether everything brought keeps the rules of changes and floors, if everything brought before these events did.
abbrev pub StayItems : Account → List (Event × Outcome) → Type 0
StayItems account events = AreItems account.brought → AreItems (extended_all account events).brought

-- Whether a store's turns in these events are a run of its machine, unless they restart the store.
abbrev pub TurnsAreRun : WorldRecord → List (Event × Outcome) → WorldRecord → Type 0
TurnsAreRun old events new =
    (w : World) (side : Side) → WorldStands old w → Stays (Store side) events →
    (after : World) × (commands : List Command) × (replies : List Reply) × Run (store_at w side) commands replies (store_at after side) ×
    contents.ContentStands (store_in new side) (store_at after side)
