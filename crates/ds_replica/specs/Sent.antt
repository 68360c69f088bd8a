-- Items of messages, and the items that they stand for.
use Rattle.std.specs.Prelude.{Bool, List, [], ◌∷◌, filter, map}
use Rattle.std.specs.List.{flat_map}
use Rattle.ds_names.specs.declared.key.Key.{Key}
use Rattle.ds_entry.specs.Item.{passes}
use Rattle.ds_entry.specs.ItemCovers.{covered_by}
use Rattle.ds_entry.specs.declared.item.Item.{Item}
use Rattle.ds_join.specs.ItemTop.{IsTop}

-- An item, and everything that it stands for.
pub record Sent : Type 0 where
  pub item : Item
  pub stands_for : List Item

-- Whether the item alone is the top of what it stands for.
abbrev pub IsSent : Sent → Type 0
IsSent s = IsTop (s.item ∷ []) s.stands_for

-- An item that a store sends. It stands for everything that the store knows by then and that the item covers.
abbrev pub sent_by : List Item → Item → Sent
sent_by known i = record { item = i; stands_for = covered_by i known }

-- The items as a store that knows all of `known` sends them.
abbrev pub given : List Item → List Item → List Sent
given known items = map (sent_by known) items

-- The items that these items stand for, together.
abbrev pub stood_for : List Sent → List Item
stood_for items = flat_map (λ s. s.stands_for) items

-- The items that a map learns from items: those that the items under its query stand for.
abbrev pub learnt : (Key → Bool) → List Sent → List Item
learnt query items = stood_for (filter (λ s. passes query s.item) items)
