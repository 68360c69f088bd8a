-- The items of a list of rows.
use Rattle.std.specs.Prelude.{◌≡◌, ℕ, ◌≤◌, List, [], ◌∷◌, length, drop}
use Rattle.std.specs.List.{sum_by}
use Rattle.ds_entry.specs.Item.{IsItem}
use Rattle.ds_entry.specs.declared.item.Item.{Item}
use Rattle.ds_packed.specs.declared.row.Row.{Row}
use Rattle.ds_packed.specs.Row.{row_item, row_length}

-- The items of the rows. The names of each row come right after those of the row before it.
abbrev pub unpacked : List ℕ → List Row → List Item
unpacked names [] = []
unpacked names (row ∷ rows) = row_item names row ∷ unpacked (drop (row_length row) names) rows

-- Whether each row is an item's, with names among the bytes.
abbrev pub HasRows : List ℕ → List Row → Type 0
HasRows names [] = Unit {0}
HasRows names (row ∷ rows) =
    (row_length row ≤ length names) × IsItem (row_item names row) × HasRows (drop (row_length row) names) rows

-- Whether each row is an item's, and the bytes are exactly the names of all rows.
pub record AreRows (names : List ℕ) (rows : List Row) : Type 0 where
  pub there : HasRows names rows
  pub whole : length names ≡ sum_by row_length rows
