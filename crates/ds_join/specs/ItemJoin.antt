-- The join of two holdings, and its laws.
use Rattle.std.specs.Prelude.{List, ◌++◌}
use Rattle.ds_entry.specs.ItemCovers.{AreSingleNumbered}
use Rattle.ds_entry.specs.declared.item.Item.{Item}
use Rattle.ds_join.specs.ItemTop.{IsTop, CoversAll}

-- Whether `joined` is the top of all items of either side.
abbrev pub IsJoin : List Item → List Item → List Item → Type 0
IsJoin joined xs ys = IsTop joined (xs ++ ys)

abbrev pub JoinIsCommutative : Type 0
JoinIsCommutative = (xs ys joined : List Item) → IsJoin joined xs ys → IsJoin joined ys xs

abbrev pub JoinIsAssociative : Type 0
JoinIsAssociative =
    (xs ys zs left right joined : List Item) → AreSingleNumbered (xs ++ (ys ++ zs)) → IsJoin left xs ys → IsJoin right ys zs →
    IsJoin joined left zs → IsJoin joined xs right

-- A law: the join of a top with itself is that top.
abbrev pub JoinIsIdempotent : Type 0
JoinIsIdempotent = (xs : List Item) → IsTop xs xs → IsJoin xs xs xs

-- Whether `joined` covers all items of both sides, and is covered by every list that does.
pub record IsLeastAbove (joined xs ys : List Item) : Type 0 where
  pub left : CoversAll joined xs
  pub right : CoversAll joined ys
  pub least : (other : List Item) → CoversAll other xs → CoversAll other ys → CoversAll other joined

abbrev pub JoinIsLeast : Type 0
JoinIsLeast = (xs ys joined : List Item) → IsJoin joined xs ys → IsLeastAbove joined xs ys
