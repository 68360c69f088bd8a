-- Changes that take the places of held ones all take effect.
use Rattle.std.specs.Prelude.{◌≡◌, ◌+◌, ◌≤◌, List, [], ◌∷◌, length, map, Contains, None}
use Rattle.ds_entry.specs.Change.{ChangeRecord}
use Rattle.ds_entry.specs.declared.floor.Floor.{Floor}
use Rattle.ds_entry.specs.declared.item.Item.{Item}
use Rattle.ds_entry.specs.declared.item.Item.TheVariants.{Change as Changed, Floor as Floored}
use Rattle.ds_names.specs.Limits.{last_place}
use Rattle.ds_machine.specs.Merging.{Course, course}
use Rattle.ds_machine.specs.Reached.{IsReached}
use Rattle.ds_machine.specs.Standing.{TakesPlace}
use Rattle.ds_machine.specs.State.{State, held, next_position, takes_effect}

-- Whether no floor was accepted.
abbrev pub HasNoFloor : State → Type 0
HasNoFloor s = (f : Floor) → ¬ Contains s.feed.accepted (Floored f)

-- The change takes the place of its key's held change.
pub record TakesHeld (s : State) (c : ChangeRecord) : Type 0 where
  pub over : ChangeRecord
  pub here : Contains (held s) (Changed over)
  pub key : over.key ≡ c.key
  pub place : TakesPlace over c

-- Whether no two of the changes have the same key.
abbrev pub KeysApart : List ChangeRecord → Type 0
KeysApart [] = Unit {0}
KeysApart (c ∷ cs) = ((d : ChangeRecord) → Contains cs d → ¬ (c.key ≡ d.key)) × KeysApart cs

-- The progress of a merge that took all the items.
abbrev pub all_taken : State → List Item → Course
all_taken s items = record { state = takes_effect s items; done = length items; taken = items; stale = 0; stop = None }

-- A law: without a floor, changes of distinct keys that take the places of held ones all take effect, if enough
-- positions are left.
abbrev pub PlacesAreTaken : Type 0
PlacesAreTaken =
    (s : State) (cs : List ChangeRecord) → IsReached s → HasNoFloor s → ((c : ChangeRecord) → Contains cs c → TakesHeld s c) →
    KeysApart cs →
    next_position s + length cs ≤ last_place → course s (map Changed cs) ≡ all_taken s (map Changed cs)
