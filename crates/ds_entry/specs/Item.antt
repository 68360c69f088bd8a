-- Items, which are changes and floors, and their order.
use Rattle.std.specs.Prelude.{Bool, true}
use Rattle.std.specs.declared.cmp.Ordering.{Ordering}
use Rattle.std.specs.declared.cmp.Ordering.TheVariants.{Less, Greater}
use Rattle.ds_names.specs.declared.key.Key.{Key}
use Rattle.ds_names.specs.Key.{name_cmp}
use Rattle.ds_entry.specs.Change.{IsChange, IsBodyInPlace, BodyCopyTakesMemory}
use Rattle.ds_entry.specs.Covers.{change_cmp}
use Rattle.ds_entry.specs.Floor.{IsFloor}
use Rattle.ds_entry.specs.declared.item.Item.{Item}
use Rattle.ds_entry.specs.declared.item.Item.TheVariants.{Change as Changed, Floor as Floored}

-- Whether the parts of the change or floor are in their ranges and fit together.
abbrev pub IsItem : Item → Type 0
IsItem (Changed c) = IsChange c
IsItem (Floored f) = IsFloor f

-- Whether the item is kept in place, so that a copy takes no memory.
abbrev pub IsItemInPlace : Item → Type 0
IsItemInPlace (Changed c) = IsBodyInPlace c.body
IsItemInPlace (Floored f) = Unit {0}

-- A copy of the item takes memory: a copy of its body does.
abbrev pub ItemCopyTakesMemory : Item → Type 0
ItemCopyTakesMemory (Changed c) = BodyCopyTakesMemory c.body
ItemCopyTakesMemory (Floored f) = ⊥

-- Whether the item is under a query of keys. A change is if its key is; a floor always is.
abbrev pub passes : (Key → Bool) → Item → Bool
passes query (Changed c) = query c.key
passes query (Floored f) = true

-- The order of items. Floors come before changes. Floors are compared by their owners' names, changes by their keys.
abbrev pub item_cmp : Item → Item → Ordering
item_cmp (Changed c) (Changed d) = change_cmp c d
item_cmp (Changed c) (Floored g) = Greater
item_cmp (Floored f) (Changed d) = Less
item_cmp (Floored f) (Floored g) = name_cmp f.owner g.owner
