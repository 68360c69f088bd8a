-- The top of a set of items, which is what a holder keeps of it. A set is a list in which only membership counts.
use Rattle.std.specs.Prelude.{◌≡◌, true, false, not, if◌then◌else◌, List, [], ◌∷◌, ◌++◌, filter, fold, Contains}
use Rattle.std.specs.List.{list_any}
use Rattle.std.specs.List.Sorted.{IsStrictlySortedBy}
use Rattle.std.specs.Ordering.{is_lt}
use Rattle.ds_entry.specs.Change.{ChangeRecord}
use Rattle.ds_entry.specs.Item.{item_cmp}
use Rattle.ds_entry.specs.ItemCovers.{covers}
use Rattle.ds_entry.specs.Void.{is_void, NoneVoid}
use Rattle.ds_entry.specs.declared.item.Item.{Item}
use Rattle.ds_entry.specs.declared.item.Item.TheVariants.{Change as Changed, Floor as Floored}

-- Whether each item of the first list is in the second.
abbrev pub IsPartOf : List Item → List Item → Type 0
IsPartOf part whole = (i : Item) → Contains part i → Contains whole i

-- Whether each item of the second list is covered by one of the first.
abbrev pub CoversAll : List Item → List Item → Type 0
CoversAll held items = (i : Item) → Contains items i → (j : Item) × Contains held j × (covers j i ≡ true)

-- Whether `held` is the top of the set. First it has the greatest floor of each owner, in the order of the names. Then it
-- has of each key the greatest version of the changes that aren't void, tombstones too, in the order of the keys.
pub record IsTop (held set : List Item) : Type 0 where
  pub in_order : IsStrictlySortedBy item_cmp held
  pub among : IsPartOf held set
  pub greatest : CoversAll held set
  pub none_void : NoneVoid held

-- The items with one more, which comes before the first greater one.
abbrev pub inserted : Item → List Item → List Item
inserted i [] = i ∷ []
inserted i (j ∷ js) = if is_lt (item_cmp i j) then i ∷ j ∷ js else j ∷ inserted i js

-- The holding after one more item. If a held item covers it, nothing changes. Otherwise it replaces those that it covers.
abbrev pub held_after : List Item → Item → List Item
held_after held i = if list_any (λ j. covers j i) held then held else inserted i (filter (λ j. not (covers i j)) held)

-- The holding after the items arrived in order.
abbrev pub tops : List Item → List Item
tops items = fold held_after [] items

-- Whether the item fits the others. A change that isn't void must have the owner of every other change of its key that
-- isn't void. A floor always fits.
abbrev pub FitsOwners : List Item → Item → Type 0
FitsOwners items (Floored f) = Unit {0}
FitsOwners items (Changed c) =
    (d : ChangeRecord) → Contains items (Changed d) → is_void items c ≡ false → is_void items d ≡ false → c.key ≡ d.key → c.owner ≡ d.owner

-- Whether each item of the list fits those before it. So a key may get another owner after a floor dropped it.
abbrev pub HasOneOwnerInTurn : List Item → Type 0
HasOneOwnerInTurn items = (front back : List Item) (i : Item) → items ≡ front ++ i ∷ back → FitsOwners front i
