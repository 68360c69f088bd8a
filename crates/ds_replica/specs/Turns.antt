-- What lasts over a list of events: a store's run, what is whole, what is known, and floors.
use Rattle.std.specs.Prelude.{◌≡◌, ℕ, ◌≤◌, ◌==◌, Bool, true, false, List, Contains}
use Rattle.std.specs.List.{list_any}
use Rattle.ds_names.specs.declared.key.Key.{Key}
use Rattle.ds_entry.specs.Change.{ChangeRecord}
use Rattle.ds_entry.specs.Void.{voids}
use Rattle.ds_entry.specs.declared.floor.Floor.{Floor}
use Rattle.ds_entry.specs.declared.item.Item.TheVariants.{Change as Changed, Floor as Floored}
use Rattle.ds_join.specs.ItemTop.{IsPartOf}
use Rattle.ds_feed.specs.Feed.{position}
use Rattle.ds_replica.specs.Sent.{Sent}
use Rattle.ds_replica.specs.Whole.{IsWhole}
use Rattle.ds_machine.specs.Machine.{Run}
use Rattle.ds_machine.specs.declared.command.Command.{Command}
use Rattle.ds_machine.specs.declared.reply.Reply.{Reply}
use Rattle.ds_replica.specs.declared.event.Side.{Side}
use Rattle.ds_replica.specs.declared.event.Side.TheVariants.{A, B}
use Rattle.ds_replica.specs.declared.event.Holder.{Holder}
use Rattle.ds_replica.specs.declared.event.Holder.TheVariants.{Store, Map}
use Rattle.ds_replica.specs.declared.event.Event.{Event}
use Rattle.ds_replica.specs.declared.event.Event.TheVariants.{ClearMap, RestartStore}
use Rattle.ds_replica.specs.declared.outcome.Outcome.{Outcome}
use Rattle.ds_replica.specs.declared.outcome.Outcome.TheVariants.{Cleared, Restarted}
use Rattle.ds_replica.specs.World.{World, store_at, held_by}
use Rattle.ds_replica.specs.Happens.{HappenAll}
use Rattle.ds_replica.specs.Known.{Account, store_of, known_at, extended_all}
use Rattle.ds_replica.specs.Fits.{Fits}

abbrev pub is_side : Side → Side → Bool
is_side A A = true
is_side B B = true
is_side _ _ = false

-- Whether the event empties the holder: it restarts the store, or clears the map.
abbrev pub empties_by : Holder → Event → Outcome → Bool
empties_by (Store side) (RestartStore s incarnation) Restarted = is_side s side
empties_by (Map j) (ClearMap k) Cleared = k == j
empties_by h _ _ = false

abbrev pub empties : Holder → Event × Outcome → Bool
empties h e = empties_by h e.0 e.1

-- Whether none of the events empties the holder.
abbrev pub Stays : Holder → List (Event × Outcome) → Type 0
Stays h events = list_any (empties h) events ≡ false

-- A law: unless a store is restarted, its turns among the events are a run of its machine.
abbrev pub TurnsAreRunInWorlds : Type 0
TurnsAreRunInWorlds =
    (old new : World) (side : Side) (events : List (Event × Outcome)) → HappenAll old events new → Stays (Store side) events →
    (commands : List Command) × (replies : List Reply) × Run (store_at old side) commands replies (store_at new side)

-- A law: what is whole for a store stays whole over any events, until the store is restarted.
abbrev pub WholeStaysInWorlds : Type 0
WholeStaysInWorlds =
    (account : Account) (old new : World) (side : Side) (events : List (Event × Outcome)) (query : Key → Bool) (items : List Sent) (r : ℕ) →
    Fits account old → HappenAll old events new → Stays (Store side) events →
    r ≤ position (store_of account side).state.feed → IsWhole (store_of account side).state.feed query items r →
    IsWhole (store_of (extended_all account events) side).state.feed query items r

-- A law: a holder forgets nothing over any events, until it is emptied.
abbrev pub KnownStays : Type 0
KnownStays =
    (account : Account) (h : Holder) (events : List (Event × Outcome)) → Stays h events →
    IsPartOf (known_at account h) (known_at (extended_all account events) h)

-- A law: a holder that knows a floor holds nothing that the floor makes void: no change of the owner, labels aside, of
-- an epoch up to the floor's generation.
abbrev pub NothingBelowFloorsInWorlds : Type 0
NothingBelowFloorsInWorlds =
    (account : Account) (w : World) (h : Holder) (f : Floor) (c : ChangeRecord) → Fits account w →
    Contains (known_at account h) (Floored f) → Contains (held_by w h) (Changed c) → voids f c ≡ false

-- A law: no event brings in a change that a known floor makes void, until the holder is emptied.
abbrev pub FloorsStandInWorlds : Type 0
FloorsStandInWorlds =
    (account : Account) (old new : World) (h : Holder) (events : List (Event × Outcome)) (f : Floor) (c : ChangeRecord) → Fits account old →
    HappenAll old events new → Stays h events →
    Contains (known_at account h) (Floored f) → Contains (held_by new h) (Changed c) → voids f c ≡ false
