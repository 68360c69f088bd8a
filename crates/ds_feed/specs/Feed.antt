-- What took effect in a store.
use Rattle.std.specs.Prelude.{ℕ, ◌+◌, ◌-◌, Bool, true, List, [], ◌∷◌, ◌++◌, length, drop}
use Rattle.ds_names.specs.declared.key.Key.{Key}
use Rattle.ds_entry.specs.declared.item.Item.{Item}

-- A store since it was opened or restarted.
pub record Feed : Type 0 where
  -- The accepted list: the items that took effect, in order. The item at index i has position `first` + i.
  pub accepted : List Item
  pub first : ℕ
  -- How many of the last items a journal keeps.
  pub ring : ℕ
  -- The number of this run of the store.
  pub incarnation : ℕ

-- The feed of a store in which nothing took effect yet.
abbrev pub opening_feed : ℕ → ℕ → ℕ → Feed
opening_feed incarnation first ring = record { accepted = []; first = first; ring = ring; incarnation = incarnation }

-- The feed after a restart of its store, in another incarnation.
abbrev pub restarted : Feed → ℕ → Feed
restarted f incarnation = opening_feed incarnation f.first f.ring

-- The feed after one more item.
abbrev pub accepts : Feed → Item → Feed
accepts f item = record f { accepted = f.accepted ++ item ∷ [] }

-- The position of the next item.
abbrev pub position : Feed → ℕ
position f = f.first + length f.accepted

-- The accepted list from a position on.
abbrev pub from : Feed → ℕ → List Item
from f p = drop (p - f.first) f.accepted

-- The scope of all keys.
abbrev pub all_keys : Key → Bool
all_keys key = true
