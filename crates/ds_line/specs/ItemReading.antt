-- The answer of the reader that stores an item.
use Rattle.std.specs.Prelude.{◌≡◌, ℕ, List, length, take, Option, None, Some, Result, Ok, Err}
use Rattle.ds_entry.specs.Item.{IsItem}
use Rattle.ds_entry.specs.declared.item.Item.{Item}
use Rattle.ds_line.specs.ItemFault.{IsItemFaultIn}
use Rattle.ds_line.specs.ItemSpelling.{item_spelling}
use Rattle.ds_line.specs.declared.fault.LineFault.{LineFault}

-- The answer: the length of the item's line at the front, whose item is stored, or why there is none.
abbrev pub ReadsItemLine : List ℕ → Result ℕ LineFault → Option Item → Type 0
ReadsItemLine bytes (Ok len) (Some i) = IsItem i × (take len bytes ≡ item_spelling i) × (len ≡ length (item_spelling i))
ReadsItemLine bytes (Ok len) None = ⊥
ReadsItemLine bytes (Err fault) placed = IsItemFaultIn fault bytes
