-- The part of a subscription that isn't in masks.
use Rattle.std.specs.Prelude.{◌≡◌, ℕ, ◌≤◌, Bool, false, List, Option, None, Some, slice_index_or}
use Rattle.ds_names.specs.declared.key.Key.{Key}
use Rattle.ds_pattern.specs.declared.query.Query.{Query}
use Rattle.ds_pattern.specs.Under.{is_under}

-- A query, and the stamp of the last Subscribe or Check.
pub record Watching : Type 0 where
  pub query : Query
  pub stamp : ℕ

abbrev pub watching : Query → ℕ → Watching
watching query stamp = record { query = query; stamp = stamp }

-- Whether the places from the index on are empty.
abbrev pub AreEmptyFrom : ℕ → List (Option Watching) → Type 0
AreEmptyFrom from places = (k : ℕ) → from ≤ k → slice_index_or places k None ≡ None

-- Whether there is a subscription, and the key is under its query.
abbrev pub watches : Key → Option Watching → Bool
watches key None = false
watches key (Some w) = is_under w.query key

-- The subscription with another stamp.
abbrev pub stamped : ℕ → Watching → Watching
stamped stamp w = watching w.query stamp
