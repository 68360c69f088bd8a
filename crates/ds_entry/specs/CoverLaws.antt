-- The laws of covering. All statements about what replicas hold rest on them.
use Rattle.std.specs.Prelude.{◌≡◌, Bool, true, List, Contains}
use Rattle.std.specs.List.Sorted.{IsStrictlySortedBy}
use Rattle.ds_names.specs.declared.key.Key.{Key}
use Rattle.ds_entry.specs.Item.{passes, item_cmp}
use Rattle.ds_entry.specs.ItemCovers.{covers, AreSingleNumbered}
use Rattle.ds_entry.specs.Void.{NoneVoid}
use Rattle.ds_entry.specs.declared.item.Item.{Item}

-- A law: an item covers itself.
abbrev pub CoversIsReflexive : Type 0
CoversIsReflexive = (i : Item) → covers i i ≡ true

abbrev pub CoversIsTransitive : Type 0
CoversIsTransitive = (k j i : Item) → covers k j ≡ true → covers j i ≡ true → covers k i ≡ true

-- A law: an item that covers one under a query is under the query too.
abbrev pub CoversKeepsQueries : Type 0
CoversKeepsQueries = (query : Key → Bool) (j i : Item) → covers j i ≡ true → passes query i ≡ true → passes query j ≡ true

-- A law: single-numbered items that cover each other are equal.
abbrev pub CoversIsExact : Type 0
CoversIsExact =
    (items : List Item) → AreSingleNumbered items → (i j : Item) → Contains items i → Contains items j → covers j i ≡ true →
    covers i j ≡ true → i ≡ j

-- A law: no item of a sorted list without void ones covers another one of the list.
abbrev pub CoversNoneHeld : Type 0
CoversNoneHeld =
    (held : List Item) → IsStrictlySortedBy item_cmp held → NoneVoid held → (i j : Item) → Contains held i → Contains held j →
    covers j i ≡ true → i ≡ j
