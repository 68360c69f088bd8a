-- Distinct texts in ascending order of their bytes.
use Rattle.std.specs.Prelude.{◌≡◌, ℕ, ◌<◌, List, length, slice_index_or}
use Rattle.std.specs.declared.cmp.Ordering.TheVariants.{Less}
use Rattle.ds_names.specs.Key.{name_cmp}

-- The text of each element is below those of the elements after it.
abbrev pub AreAscending : {X : Type 0} → (X → List ℕ) → List X → Type 0
AreAscending {X} text xs =
    (i j : ℕ) (d : X) → i < j → j < length xs → name_cmp (text (slice_index_or xs i d)) (text (slice_index_or xs j d)) ≡ Less
