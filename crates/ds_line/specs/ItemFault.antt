-- The faults of an item's reader, and their places.
use Rattle.std.specs.Prelude.{◌≢◌, ℕ, List, ◌++◌}
use Rattle.ds_entry.specs.Item.{IsItem}
use Rattle.ds_entry.specs.declared.item.Item.{Item}
use Rattle.ds_line.specs.FaultPlace.{IsFaultPlace, ItemLineTakesMemory}
use Rattle.ds_line.specs.ItemSpelling.{item_parts, item_spelling}
use Rattle.ds_line.specs.declared.fault.LineFault.{LineFault}
use Rattle.ds_line.specs.declared.fault.LineFault.TheVariants.{BadLine, NoRoom}

-- Whether the bytes don't begin with an item's line.
abbrev pub HasNoItem : List ℕ → Type 0
HasNoItem bytes = (i : Item) (rest : List ℕ) → IsItem i → bytes ≢ item_spelling i ++ rest

-- Whether the bytes don't begin with an item's line, and the first part of an item that can't be read begins at the
-- place.
pub record IsItemFault (bytes : List ℕ) (place : ℕ) : Type 0 where
  pub none : HasNoItem bytes
  pub first : IsFaultPlace IsItem item_parts bytes place

-- The meaning of a fault of an item's reader. Only puts of texts and blobs run out of memory.
abbrev pub IsItemFaultIn : LineFault → List ℕ → Type 0
IsItemFaultIn (BadLine place) bytes = IsItemFault bytes place
IsItemFaultIn NoRoom bytes = ItemLineTakesMemory bytes
