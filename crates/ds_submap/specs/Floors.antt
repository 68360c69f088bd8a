-- What a floor keeps out of a map.
use Rattle.std.specs.Prelude.{List, Contains}
use Rattle.ds_entry.specs.declared.floor.Floor.{Floor}
use Rattle.ds_entry.specs.declared.item.Item.{Item}
use Rattle.ds_entry.specs.declared.item.Item.TheVariants.{Floor as Floored}
use Rattle.ds_join.specs.FloorStands.{IsDropped, FloorStands}

-- Whether of each floor among what arrived, it or a higher one of its owner is held, and nothing that it voids.
abbrev pub EachFloorStands : List Item → List Item → Type 0
EachFloorStands came held = (f : Floor) → Contains came (Floored f) → FloorStands held f

-- Whether no held floor voids any of the items.
abbrev pub AreSwept : List Item → List Item → Type 0
AreSwept held items = (f : Floor) → Contains held (Floored f) → IsDropped items f
