-- The holding that lists of floors and changes stand for.
use Rattle.std.specs.Prelude.{◌≡◌, if◌then◌else◌, ℕ, ◌<◌, ◌≤◌, ◌&&◌, List, [], ◌∷◌, map, filter, not}
use Rattle.std.specs.Prelude.{length, All, Option, is_some, Result, Ok, Err, MatchResult, ⊤, slice_set}
use Rattle.std.specs.List.{insert, HoldsAt}
use Rattle.std.specs.List.Sorted.{IsPartitionPoint}
use Rattle.std.specs.declared.cmp.Ordering.{Ordering}
use Rattle.std.specs.declared.cmp.Ordering.TheVariants.{Less, Equal, Greater}
use Rattle.std.specs.FinMap.{FinMap, from_entries, get, is_sorted, len}
use lib.Dec.{T}
use Rattle.ds_names.specs.declared.key.Key.{Key}
use Rattle.ds_names.specs.Key.{name_cmp, key_cmp}
use Rattle.ds_entry.specs.Change.{ChangeRecord, IsChange}
use Rattle.ds_entry.specs.Left.{value_of}
use Rattle.ds_entry.specs.Void.{voids}
use Rattle.ds_entry.specs.declared.floor.Floor.{Floor}
use Rattle.ds_entry.specs.declared.item.Item.{Item}
use Rattle.ds_entry.specs.declared.item.Item.TheVariants.{Floor as Floored}
use Rattle.ds_join.specs.declared.merge.Merge.{Merge}
use Rattle.ds_join.specs.declared.merge.Merge.TheVariants.{Taken, Known, Stale}
use Rattle.ds_join.specs.declared.merge.JoinFault.{JoinFault}
use Rattle.ds_held.specs.Limits.{LimitsRecord}
use Rattle.ds_held.specs.Held.{Holding, held_changes, held_for, IsSound}
use Rattle.ds_held.specs.Raise.{AnswersFloor}

-- Each floor with its owner, and each change with its key.
abbrev pub owned : Floor → List ℕ × ℕ
owned f = (f.owner, f.generation)

abbrev pub keyed : ChangeRecord → Key × ChangeRecord
keyed c = (c.key, c)

-- A floor, as an item.
abbrev pub floored : Floor → Item
floored f = Floored f

abbrev pub by_owner : List Floor → List (List ℕ × ℕ)
by_owner floors = map owned floors

abbrev pub by_key : List ChangeRecord → List (Key × ChangeRecord)
by_key changes = map keyed changes

-- The maps from owners to their floors' generations, and from keys to their changes.
abbrev pub floors_map : List Floor → FinMap name_cmp ℕ
floors_map floors = from_entries (by_owner floors)

abbrev pub changes_map : List ChangeRecord → FinMap key_cmp ChangeRecord
changes_map changes = from_entries (by_key changes)

-- The holding of these lists.
abbrev pub holding_of : List Floor → List ChangeRecord → LimitsRecord → Holding
holding_of floors changes limits = record { floors = floors_map floors; changes = changes_map changes; limits = limits }

-- Whether the floors are in the order of their owners' names.
abbrev pub AreOwnersRising : List Floor → Type 0
AreOwnersRising floors = T (is_sorted name_cmp (by_owner floors))

-- Whether the changes are in the order of their keys.
abbrev pub AreKeysRising : List ChangeRecord → Type 0
AreKeysRising changes = T (is_sorted key_cmp (by_key changes))

-- The invariant of a holder's lists.
pub record AreKept (floors : List Floor) (changes : List ChangeRecord) (limits : LimitsRecord) : Type 0 where
  pub owners : AreOwnersRising floors
  pub keys : AreKeysRising changes
  pub few_floors : length floors ≤ 64
  pub few : length changes ≤ limits.keys
  pub valid : All IsChange changes
  pub sound : IsSound (holding_of floors changes limits)

-- The index of the element under `sought`, or the index that it would get; `key` is what each element is under.
module _ {K X : Type 0} (R : K → K → Ordering) (key : X → K) where
  abbrev pub IsPlaceOf : List X → K → Result ℕ ℕ → Type 0
  IsPlaceOf xs sought (Ok i) = (i < length xs) × HoldsAt (λ x. R (key x) sought ≡ Equal) xs i
  IsPlaceOf xs sought (Err i) = (i ≤ length xs) × IsPartitionPoint (λ x. R (key x) sought ≡ Less) (λ x. R (key x) sought ≡ Greater) xs i

-- The index of a key's change, or the index that it would get.
abbrev pub IsPlace : List ChangeRecord → Key → Result ℕ ℕ → Type 0
IsPlace changes key place = IsPlaceOf key_cmp (λ (c : ChangeRecord). c.key) changes key place

-- The index of an owner's floor, or the index that it would get.
abbrev pub IsFloorPlace : List Floor → List ℕ → Result ℕ ℕ → Type 0
IsFloorPlace floors owner place = IsPlaceOf name_cmp (λ (f : Floor). f.owner) floors owner place

-- Whether the place is of an element of a list of this length, or of one to insert.
abbrev pub IsPlaceIn : Result ℕ ℕ → ℕ → Type 0
IsPlaceIn place len = MatchResult place (λ i. i < len) (λ i. i ≤ len)

-- Whether the place is of an element to insert.
abbrev pub IsGap : Result ℕ ℕ → Type 0
IsGap place = MatchResult place (λ i. ⊥) (λ i. ⊤)

-- The list with the element put at the place.
module _ {X : Type 0} where
  abbrev pub put_at : List X → Result ℕ ℕ → X → List X
  put_at xs (Ok i) x = slice_set xs i x
  put_at xs (Err i) x = insert xs i x

-- The list after an answer: `taken` if it is Taken, else unchanged.
module _ {X : Type 0} where
  abbrev pub list_after : List X → List X → Result Merge JoinFault → List X
  list_after old taken (Ok Taken) = taken
  list_after old taken (Ok Known) = old
  list_after old taken (Ok Stale) = old
  list_after old taken (Err fault) = old

-- The changes that the floor doesn't void.
abbrev pub left_by_floor : Floor → List ChangeRecord → List ChangeRecord
left_by_floor f changes = filter (λ (c : ChangeRecord). not (voids f c)) changes

-- The puts that the floor voids.
abbrev pub puts_void_by : Floor → List ChangeRecord → List ChangeRecord
puts_void_by f changes = filter (λ (c : ChangeRecord). voids f c && is_some (value_of c)) changes

-- The marks beside the changes that the floor doesn't void.
module _ {M : Type 0} where
  abbrev pub marks_left : Floor → List ChangeRecord → List M → List M
  marks_left f [] marks = []
  marks_left f (c ∷ cs) [] = []
  marks_left f (c ∷ cs) (m ∷ ms) = if voids f c then marks_left f cs ms else m ∷ marks_left f cs ms

-- The answer to a floor, for these held floors.
abbrev pub FloorAnswer : List Floor → Floor → Result Merge JoinFault → Type 0
FloorAnswer floors f answer = AnswersFloor (get (floors_map floors) f.owner) (len (floors_map floors)) f.generation answer

-- The floors after the answer: one that is taken is at its owner's place; otherwise they are unchanged.
abbrev pub AreFloorsAfter : List Floor → Floor → Result Merge JoinFault → List Floor → Type 0
AreFloorsAfter old f answer new = (place : Result ℕ ℕ) × IsFloorPlace old f.owner place × (new ≡ list_after old (put_at old place f) answer)

-- Whether what is found at the place of a key is what is held for the key.
abbrev pub IsHeldAt : Holding → Result ℕ ℕ → Option ChangeRecord → Type 0
IsHeldAt h place found = (key : Key) → IsPlace (held_changes h) key place → found ≡ held_for h key
