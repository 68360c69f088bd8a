-- Parts of a list of items: its changes, its floors, the change of one key, the floor of one owner.
use Rattle.std.specs.Prelude.{ℕ, List, [], ◌∷◌, Option}
use Rattle.std.specs.List.{find}
use Rattle.std.specs.Ordering.{eq_by_cmp}
use Rattle.ds_names.specs.declared.key.Key.{Key}
use Rattle.ds_names.specs.Key.{name_cmp, key_cmp}
use Rattle.ds_entry.specs.Change.{ChangeRecord}
use Rattle.ds_entry.specs.declared.floor.Floor.{Floor}
use Rattle.ds_entry.specs.declared.item.Item.{Item}
use Rattle.ds_entry.specs.declared.item.Item.TheVariants.{Change as Changed, Floor as Floored}

-- The changes among the items, in order.
abbrev pub changes_in : List Item → List ChangeRecord
changes_in [] = []
changes_in (Changed c ∷ items) = c ∷ changes_in items
changes_in (Floored f ∷ items) = changes_in items

-- The floors among the items, in order.
abbrev pub floors_in : List Item → List Floor
floors_in [] = []
floors_in (Changed c ∷ items) = floors_in items
floors_in (Floored f ∷ items) = f ∷ floors_in items

-- The change of the key among the items.
abbrev pub held_at : List Item → Key → Option ChangeRecord
held_at held key = find (λ (c : ChangeRecord). eq_by_cmp key_cmp key c.key) (changes_in held)

-- The floor of the owner among the items.
abbrev pub floor_at : List Item → List ℕ → Option Floor
floor_at held owner = find (λ (f : Floor). eq_by_cmp name_cmp owner f.owner) (floors_in held)
