-- The laws of tops of items.
use Rattle.std.specs.Prelude.{◌≡◌, ◌≤◌, false, List, [], ◌∷◌, ◌++◌, Contains}
use Rattle.ds_entry.specs.Change.{ChangeRecord}
use Rattle.ds_entry.specs.ItemCovers.{covered_by, AreSingleNumbered}
use Rattle.ds_entry.specs.Void.{voids}
use Rattle.ds_entry.specs.declared.floor.Floor.{Floor}
use Rattle.ds_entry.specs.declared.item.Item.{Item}
use Rattle.ds_entry.specs.declared.item.Item.TheVariants.{Change as Changed, Floor as Floored}
use Rattle.ds_join.specs.ItemTop.{IsTop, tops, HasOneOwnerInTurn}

-- A law: a single-numbered set has a top.
abbrev pub TopExists : Type 0
TopExists = (set : List Item) → AreSingleNumbered set → (held : List Item) × IsTop held set

-- A law: a single-numbered set has only one top.
abbrev pub TopIsUnique : Type 0
TopIsUnique = (set held other : List Item) → AreSingleNumbered set → IsTop held set → IsTop other set → held ≡ other

-- A law: what is held is its own top.
abbrev pub HeldIsItsTop : Type 0
HeldIsItsTop = (held set : List Item) → IsTop held set → IsTop held held

-- A law: the top has a floor of each owner that has one in the set, at least as high as all of these.
abbrev pub GreatestFloorIsHeld : Type 0
GreatestFloorIsHeld =
    (set held : List Item) (f : Floor) → IsTop held set → Contains set (Floored f) →
    (g : Floor) × Contains held (Floored g) × (g.owner ≡ f.owner) × (f.generation ≤ g.generation)

-- A law: the top has no change that a floor of the set voids, whichever of the two arrived first.
abbrev pub NothingVoidIsHeld : Type 0
NothingVoidIsHeld =
    (set held : List Item) (f : Floor) (c : ChangeRecord) → IsTop held set → Contains set (Floored f) → Contains held (Changed c) →
    voids f c ≡ false

-- A law: `tops` returns a top of every list in which each item fits those before it.
abbrev pub TopsIsTop : Type 0
TopsIsTop = (items : List Item) → HasOneOwnerInTurn items → IsTop (tops items) items

-- A law: the top of top(X) and Y is a top of X and Y.
abbrev pub TopOfTop : Type 0
TopOfTop = (xs ys top joined : List Item) → IsTop top xs → IsTop joined (top ++ ys) → IsTop joined (xs ++ ys)

-- A law: if the items are single-numbered, the top of X and Y is a top of top(X) and Y.
abbrev pub TopOfUnion : Type 0
TopOfUnion =
    (xs ys top joined : List Item) → AreSingleNumbered (xs ++ ys) → IsTop top xs → IsTop joined (xs ++ ys) → IsTop joined (top ++ ys)

-- A law: the top of all items of a set that one of them covers is that one alone.
abbrev pub TopOfCovered : Type 0
TopOfCovered = (i : Item) (known : List Item) → Contains known i → IsTop (i ∷ []) (covered_by i known)
