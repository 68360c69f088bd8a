-- What a holder holds: of each owner at most one floor, and of each key at most one change that isn't void.
use Rattle.std.specs.Prelude.{◌≡◌, ℕ, Bool, false, List, ◌++◌, map, Option, None, Some}
use Rattle.std.specs.FinMap.{FinMap, empty, get, len, entries, values}
use Rattle.ds_names.specs.declared.key.Key.{Key}
use Rattle.ds_names.specs.Key.{name_cmp, key_cmp}
use Rattle.ds_entry.specs.Change.{ChangeRecord}
use Rattle.ds_entry.specs.Floor.{floor_of}
use Rattle.ds_entry.specs.Void.{voids}
use Rattle.ds_entry.specs.declared.floor.Floor.{Floor}
use Rattle.ds_entry.specs.declared.item.Item.{Item}
use Rattle.ds_entry.specs.declared.item.Item.TheVariants.{Change as Changed, Floor as Floored}
use Rattle.ds_held.specs.Limits.{LimitsRecord}

-- The maps from owners to the generations of their floors and from keys to their changes, and the limits.
pub record Holding : Type 0 where
  pub floors : FinMap name_cmp ℕ
  pub changes : FinMap key_cmp ChangeRecord
  pub limits : LimitsRecord

-- The holding of nothing.
abbrev pub nothing_held : LimitsRecord → Holding
nothing_held limits = record { floors = empty; changes = empty; limits = limits }

-- The floor of an owner, as an item.
abbrev pub floor_item : List ℕ × ℕ → Item
floor_item e = Floored (floor_of e.0 e.1)

-- A change, as an item.
abbrev pub change_item : ChangeRecord → Item
change_item c = Changed c

-- The held changes, in the order of their keys.
abbrev pub held_changes : Holding → List ChangeRecord
held_changes h = values h.changes

-- All held items: the floors in the order of their owners' names, then the changes in the order of their keys.
abbrev pub held_items : Holding → List Item
held_items h = map floor_item (entries h.floors) ++ map change_item (held_changes h)

-- The change that is held for the key.
abbrev pub held_for : Holding → Key → Option ChangeRecord
held_for h key = get h.changes key

-- The generation of the owner's floor.
abbrev pub floor_for : Holding → List ℕ → Option ℕ
floor_for h owner = get h.floors owner

-- The held floors, in the order of their owners' names.
abbrev pub held_floors : Holding → List Floor
held_floors h = map (λ (e : List ℕ × ℕ). floor_of e.0 e.1) (entries h.floors)

-- The number of held keys, those of tombstones included; floors aren't counted.
abbrev pub held_count : Holding → ℕ
held_count h = len h.changes

-- The number of floors.
abbrev pub floor_count : Holding → ℕ
floor_count h = len h.floors

-- Whether a floor at this generation, if there is one, voids its owner's change.
abbrev pub is_below : Option ℕ → ChangeRecord → Bool
is_below None c = false
is_below (Some generation) c = voids (floor_of c.owner generation) c

-- Whether the held floor of its owner voids the change.
abbrev pub is_void_at : Holding → ChangeRecord → Bool
is_void_at h c = is_below (floor_for h c.owner) c

-- The invariant of every holder: each change is under its own key, and no held floor voids a held change.
pub record IsSound (h : Holding) : Type 0 where
  pub own : (key : Key) (c : ChangeRecord) → held_for h key ≡ Some c → c.key ≡ key
  pub none_void : (key : Key) (c : ChangeRecord) → held_for h key ≡ Some c → is_void_at h c ≡ false
