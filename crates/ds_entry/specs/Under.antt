-- The items under a query, and those that are entries.
use Rattle.std.specs.Prelude.{Bool, List, filter}
use Rattle.ds_names.specs.declared.key.Key.{Key}
use Rattle.ds_entry.specs.Item.{passes}
use Rattle.ds_entry.specs.Left.{is_put}
use Rattle.ds_entry.specs.declared.item.Item.{Item}

-- The items under a query of keys: its changes and all floors.
abbrev pub under : (Key → Bool) → List Item → List Item
under query items = filter (passes query) items

-- The entries among held items, which are the puts.
abbrev pub entries_of : List Item → List Item
entries_of held = filter is_put held
