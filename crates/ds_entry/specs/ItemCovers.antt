-- The items that another item makes needless, and items that don't contradict each other.
use Rattle.std.specs.Prelude.{◌≡◌, Bool, false, ◌&&◌, nat_le, List, filter, Contains}
use Rattle.std.specs.Ordering.{eq_by_cmp}
use Rattle.ds_names.specs.Key.{name_cmp}
use Rattle.ds_entry.specs.Change.{ChangeRecord}
use Rattle.ds_entry.specs.Covers.{covers as change_covers}
use Rattle.ds_entry.specs.Void.{voids}
use Rattle.ds_entry.specs.declared.item.Item.{Item}
use Rattle.ds_entry.specs.declared.item.Item.TheVariants.{Change as Changed, Floor as Floored}

-- Whether the first item covers the second. A change covers those of its key and owner up to its version, and no floor.
-- A floor covers the changes that it voids, and its owner's floors up to its generation.
abbrev pub covers : Item → Item → Bool
covers (Changed d) (Changed c) = change_covers d c
covers (Changed d) (Floored g) = false
covers (Floored f) (Changed c) = voids f c
covers (Floored f) (Floored g) = eq_by_cmp name_cmp g.owner f.owner && nat_le g.generation f.generation

-- The items that `i` covers.
abbrev pub covered_by : Item → List Item → List Item
covered_by i items = filter (covers i) items

-- Whether the changes among the items don't contradict each other. Two changes with the same key and version are equal,
-- and two changes with the same key have the same owner.
pub record AreSingleNumbered (items : List Item) : Type 0 where
  pub one_change : (c d : ChangeRecord) → Contains items (Changed c) → Contains items (Changed d) → c.key ≡ d.key → c.version ≡ d.version →
      c ≡ d
  pub one_owner : (c d : ChangeRecord) → Contains items (Changed c) → Contains items (Changed d) → c.key ≡ d.key → c.owner ≡ d.owner
