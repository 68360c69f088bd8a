-- Texts of items, one line each.
use Rattle.std.specs.Prelude.{◌≡◌, ℕ, List, ◌++◌, Option, Some, None, Result, Ok, Err}
use Rattle.std.specs.List.{All, flat_map}
use Rattle.ds_entry.specs.Item.{IsItem}
use Rattle.ds_entry.specs.declared.item.Item.{Item}
use Rattle.ds_line.specs.ItemSpelling.{item_spelling}
use Rattle.ds_names.specs.declared.room.NoRoom.{NoRoom}

-- Whether the text has the lines of the items, in order, and nothing else.
pub record AreLines (items : List Item) (text : List ℕ) : Type 0 where
  pub each : All IsItem items
  pub text_is : text ≡ flat_map item_spelling items

-- Whether the text begins with an item's line.
pub record BeginsWithItem (text : List ℕ) : Type 0 where
  pub item : Item
  pub rest : List ℕ
  pub is : IsItem item
  pub front : text ≡ item_spelling item ++ rest

-- The result of reading a text of items: the items, `None` if the text isn't their lines, or NoRoom if memory runs out for an item.
abbrev pub ReadsLines : List ℕ → Result (Option (List Item)) NoRoom → Type 0
ReadsLines text (Ok None) = (items : List Item) → ¬ AreLines items text
ReadsLines text (Ok (Some items)) = AreLines items text
ReadsLines text (Err wanting) = BeginsWithItem text
