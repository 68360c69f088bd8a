-- What a map holds that has all of a store, and which endpoints its labels name.
use Rattle.std.specs.Prelude.{◌≡◌, ℕ, ◌≤◌, true, List, Some, Contains}
use Rattle.std.specs.List.{slice_get}
use Rattle.ds_entry.specs.Item.{IsItem}
use Rattle.ds_entry.specs.declared.item.Item.{Item}
use Rattle.ds_join.specs.ItemTop.{IsPartOf, CoversAll}
use Rattle.ds_feed.specs.Feed.{position}
use Rattle.ds_pattern.specs.Under.{is_under}
use Rattle.ds_replica.specs.Sent.{Sent}
use Rattle.ds_replica.specs.Whole.{IsWhole}
use Rattle.ds_replica.specs.Labels.{label_in, IsNewest}
use Rattle.ds_machine.specs.Reached.{AreExact}
use Rattle.ds_replica.specs.declared.event.Side.{Side}
use Rattle.ds_replica.specs.declared.event.Holder.TheVariants.{Store, Map}
use Rattle.ds_replica.specs.World.{World, held_by}
use Rattle.ds_replica.specs.Known.{MapAccount, Account, store_of, known_by}
use Rattle.ds_replica.specs.Fits.{Fits}
use Rattle.ds_names.specs.Key.{label_key}
use Rattle.ds_entry.specs.Under.{under, entries_of}

-- Whether map `j`, whose account is `m`, has all of a store: what it was given is whole up to the store's present
-- position.
pub record HasAll (account : Account) (j : ℕ) (m : MapAccount) (side : Side) : Type 0 where
  pub there : slice_get account.maps j ≡ Some m
  pub whole : IsWhole (store_of account side).state.feed (is_under m.query) m.taken (position (store_of account side).state.feed)

-- A law: a map has all if it was given, in any order and any number of times, at least some items that are whole up to
-- that position.
abbrev pub WholeIsAll : Type 0
WholeIsAll =
    (account : Account) (j : ℕ) (m : MapAccount) (side : Side) (items : List Sent) (r : ℕ) → slice_get account.maps j ≡ Some m →
    ((s : Sent) → Contains items s → Contains m.taken s) →
    IsWhole (store_of account side).state.feed (is_under m.query) items r → position (store_of account side).state.feed ≤ r →
    HasAll account j m side

-- The map was given nothing under its query that the store doesn't know.
abbrev pub HasNothingElse : Account → MapAccount → Side → Type 0
HasNothingElse account m side = IsPartOf (under (is_under m.query) (known_by m)) (store_of account side).known

-- A law: a map that has all, and nothing else, holds exactly what the store holds under its query, and so has its
-- entries, if everything brought is exact.
abbrev pub HoldsTheStoresInWorlds : Type 0
HoldsTheStoresInWorlds =
    (account : Account) (w : World) (j : ℕ) (m : MapAccount) (side : Side) → Fits account w → AreExact account.brought →
    HasAll account j m side → HasNothingElse account m side →
    (held_by w (Map j) ≡ under (is_under m.query) (held_by w (Store side))) ×
    (entries_of (held_by w (Map j)) ≡ entries_of (under (is_under m.query) (held_by w (Store side))))

-- A law: a map that was given more, say by the other store, holds at least the store's version of each key under its
-- query.
abbrev pub HoldsAtLeastInWorlds : Type 0
HoldsAtLeastInWorlds =
    (account : Account) (w : World) (j : ℕ) (m : MapAccount) (side : Side) → Fits account w → HasAll account j m side →
    CoversAll (held_by w (Map j)) (under (is_under m.query) (held_by w (Store side)))

-- Whether all of the items keep the rules of changes and floors.
abbrev pub AreItems : List Item → Type 0
AreItems items = (i : Item) → Contains items i → IsItem i

-- Whether each map that has all and nothing else returns the right endpoint for each label under its query: that of the
-- greatest generation that the store knows, or none if that one has ended or the store knows none.
abbrev pub MapsNameNewest : Account → World → Type 0
MapsNameNewest account w =
    (j : ℕ) (m : MapAccount) (side : Side) (name : List ℕ) → HasAll account j m side → HasNothingElse account m side →
    is_under m.query (label_key name) ≡ true → IsNewest (store_of account side).known name (label_in (held_by w (Map j)) name)

-- A law: so it is if everything brought keeps the rules, exact or not.
abbrev pub LabelsAreNewestInWorlds : Type 0
LabelsAreNewestInWorlds = (account : Account) (w : World) → Fits account w → AreItems account.brought → MapsNameNewest account w
