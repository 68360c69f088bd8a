-- The changes that a floor voids.
use Rattle.std.specs.Prelude.{◌≡◌, Bool, false, not, ◌&&◌, nat_le, List, Contains}
use Rattle.std.specs.List.{list_any}
use Rattle.std.specs.Ordering.{eq_by_cmp}
use Rattle.ds_names.specs.Key.{name_cmp}
use Rattle.ds_entry.specs.Change.{ChangeRecord}
use Rattle.ds_entry.specs.declared.floor.Floor.{Floor}
use Rattle.ds_entry.specs.declared.item.Item.{Item}
use Rattle.ds_entry.specs.declared.item.Item.TheVariants.{Change as Changed, Floor as Floored}
use Rattle.ds_names.specs.Kind.{is_label}

-- Whether the floor voids the change, which isn't a label then, has the floor's owner, and an epoch up to the floor's
-- generation.
abbrev pub voids : Floor → ChangeRecord → Bool
voids f c = not (is_label c.key.kind) && (eq_by_cmp name_cmp c.owner f.owner && nat_le c.version.epoch f.generation)

-- Whether the item is a floor that voids the change.
abbrev pub voids_it : ChangeRecord → Item → Bool
voids_it c (Changed d) = false
voids_it c (Floored f) = voids f c

-- Whether a floor of the list voids the change.
abbrev pub is_void : List Item → ChangeRecord → Bool
is_void items c = list_any (voids_it c) items

-- Whether no floor of the list voids a change of the list.
abbrev pub NoneVoid : List Item → Type 0
NoneVoid items = (f : Floor) (c : ChangeRecord) → Contains items (Floored f) → Contains items (Changed c) → voids f c ≡ false
