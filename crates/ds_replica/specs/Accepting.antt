-- The growth of a store's accepted list.
use Rattle.std.specs.Prelude.{◌≡◌, false, List, [], ◌∷◌, ◌++◌, Contains}
use Rattle.ds_entry.specs.ItemCovers.{covers}
use Rattle.ds_entry.specs.declared.item.Item.{Item}

-- Whether each of the later items is covered by none of the items before it.
abbrev pub AreNew : List Item → List Item → Type 0
AreNew accepted since =
    (front back : List Item) (i j : Item) → since ≡ front ++ i ∷ back → Contains (accepted ++ front) j → covers j i ≡ false

-- A law: a list of later items is new if each was covered by none before it when it took effect.
pub record OneByOneIsNew : Type 0 where
  pub none : (accepted : List Item) → AreNew accepted []
  pub one_more : (accepted since : List Item) (i : Item) → AreNew accepted since →
      ((j : Item) → Contains (accepted ++ since) j → covers j i ≡ false) → AreNew accepted (since ++ i ∷ [])
  pub one_before : (accepted since : List Item) (i : Item) → ((j : Item) → Contains accepted j → covers j i ≡ false) →
      AreNew (accepted ++ i ∷ []) since → AreNew accepted (i ∷ since)
