-- What is shown if nothing is held.
use Rattle.std.proofs.Common.{◌≡◌, ◌≢◌, Bool, true, false, List, [], ◌∷◌, None, Some, refl}
use Rattle.std.specs.List.{slice_get}
use Rattle.ds_entry.specs.declared.item.Item.{Item}
use Rattle.c_store.specs.Called.{held_shown}

pub none_shown : (all : Bool) (items : List Item) → None ≡ slice_get items 0 → [] ≡ held_shown all items
none_shown true [] none = refl
none_shown false [] none = refl
none_shown all (x ∷ items) none = absurd (cc)

pub some_held : (items : List Item) (x : Item) → Some x ≡ slice_get items 0 → items ≢ []
some_held [] x some = absurd (cc)
some_held (y ∷ items) x some = λ none. cc
