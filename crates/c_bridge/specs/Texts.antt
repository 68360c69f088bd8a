-- Texts of items.
use Rattle.std.specs.Prelude.{ℕ, List, map, drop}
use Rattle.ds_entry.specs.declared.item.Item.{Item}
use Rattle.ds_line.specs.ItemSpelling.{item_spelling}
use Rattle.c_values.specs.Lines.{AreLines, BeginsWithItem}
use Rattle.c_bridge.specs.declared.fault.BridgeFault.{BridgeFault}
use Rattle.c_bridge.specs.declared.fault.BridgeFault.TheVariants.{BadLines, NoRoom}

-- The lines of the items from the index on.
abbrev pub lines_from : ℕ → List Item → List (List ℕ)
lines_from first items = drop first (map item_spelling items)

-- Whether the text isn't the lines of items, or memory may run out for its first one.
abbrev pub IsItemsFault : List ℕ → BridgeFault → Type 0
IsItemsFault text BadLines = (items : List Item) → ¬ AreLines items text
IsItemsFault text NoRoom = BeginsWithItem text
IsItemsFault text _ = ⊥
