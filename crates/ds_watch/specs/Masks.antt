-- The masks of a held change or floor.
use Rattle.std.specs.Prelude.{ℕ, Bool, ◌&&◌, false, List, slice_set}
use Rattle.ds_watch.specs.declared.masks.Masks.{Masks}

-- The masks of an item that just took effect. No subscription that is owed the item has been shown it.
abbrev pub fresh : List Bool → Masks
fresh under = record { under = under; unseen = under }

-- The masks after the subscription at the place was shown the item.
abbrev pub shown_to : ℕ → Masks → Masks
shown_to sub m = record m { unseen = slice_set m.unseen sub false }

-- The masks after a Subscribe at the place, by whether the item is under its query, as each floor is. With `initial`, the
-- subscription hasn't been shown an item under its query.
abbrev pub made_at : ℕ → Bool → Bool → Masks → Masks
made_at sub is_under initial m = record { under = slice_set m.under sub is_under; unseen = slice_set m.unseen sub (is_under && initial) }
