-- What a page has of what is held.
use Rattle.std.specs.Prelude.{◌≡◌, ℕ, ◌+◌, ◌-◌, ◌==◌, Bool, not, ◌&&◌, cond, List, [], ◌∷◌, ◌++◌, drop, map, filter, take}
use Rattle.std.specs.Prelude.{length, Option, Some, None}
use Rattle.ds_names.specs.declared.key.Key.{Key}
use Rattle.ds_entry.specs.Change.{ChangeRecord}
use Rattle.ds_entry.specs.declared.item.Item.{Item}
use Rattle.ds_held.specs.Held.{change_item}
use Rattle.ds_join.specs.Reading.{comes_after}

-- The changes under the scope.
abbrev pub admitted : (Key → Bool) → List ChangeRecord → List ChangeRecord
admitted keep changes = filter (λ (c : ChangeRecord). keep c.key) changes

-- The first `max` changes that a scope keeps, of those at the index and after it, as items.
abbrev pub items_from : (Key → Bool) → ℕ → ℕ → List ChangeRecord → List Item
items_from keep first max changes = map change_item (take max (admitted keep (drop first changes)))

-- The changes under the scope that come after the key.
abbrev pub to_come : (Key → Bool) → Option Key → List ChangeRecord → List ChangeRecord
to_come keep after changes = admitted keep (filter (comes_after after) changes)

-- How many more changes fit after one more, which takes room if it is under the scope; `None` if it doesn't fit.
abbrev pub more_after : Bool → ℕ → Option ℕ
more_after keep left = cond keep (cond (left == 0) None (Some (left - 1))) (Some left)

-- The change, if it is under the scope and fits.
abbrev pub given_change : Bool → ℕ → ChangeRecord → List ChangeRecord
given_change keep left c = cond (keep && not (left == 0)) (c ∷ []) []

-- Like `given_change`, for items.
abbrev pub given_items : Bool → ℕ → ChangeRecord → List Item
given_items keep left c = map change_item (given_change keep left c)

-- Of the first `seen` changes, those under the scope were appended to the items, which leaves room for `left` of `max`.
pub record ChangesArePaged (keep : Key → Bool) (changes : List ChangeRecord) (seen max left : ℕ) (start items : List Item) : Type 0 where
  pub items_are : items ≡ start ++ map change_item (admitted keep (take seen changes))
  pub count : length (admitted keep (take seen changes)) + left ≡ max
