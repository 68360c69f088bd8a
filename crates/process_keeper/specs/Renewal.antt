-- Other labels while processes run: each takes over the processes of a label, or is new.
use Rattle.std.specs.Prelude.{ℕ, ◌+◌, ◌==◌, ◌&&◌, not, is_some, Bool, false, List, [], ◌∷◌, Option, Some, None, if◌then◌else◌}
use Rattle.std.specs.Prelude.{slice_index_or}
use Rattle.std.specs.List.{list_any}
use Rattle.process_keeper.specs.declared.lifecycle.Lifecycle.{Lifecycle}

-- The processes of a new label: an earlier run may have left some.
abbrev pub new_lifecycle : Lifecycle
new_lifecycle = record {
  instance = None;
  pending = None;
  is_clean = false;
  has_exited = false;
  is_asked = false;
  is_killed = false;
  is_empty = false;
  is_scanned = false;
  retry_at = 0;
  pause = 100;
}

-- The processes that a label takes over, by the number of the label that had them, or those of a new one.
abbrev pub lifecycle_from : List Lifecycle → Option ℕ → Lifecycle
lifecycle_from labels (Some k) = slice_index_or labels k new_lifecycle
lifecycle_from labels None = new_lifecycle

-- ---- which labels may be left out

-- Whether the label has no process and no pending start. Leftovers of an earlier run were scanned for.
abbrev pub is_idle : Lifecycle → Bool
is_idle p = p.is_clean && (not (is_some p.instance) && not (is_some p.pending))

-- Whether the label with this number is the source.
abbrev pub is_source : ℕ → Option ℕ → Bool
is_source k (Some j) = j == k
is_source k None = false

-- Whether the label isn't idle, and no source.
abbrev pub is_forgotten : List (Option ℕ) → ℕ → Lifecycle → Bool
is_forgotten sources k p = not (is_idle p) && not (list_any (is_source k) sources)

-- The number of the first such label, counted from `k`.
abbrev pub first_forgotten : List (Option ℕ) → ℕ → List Lifecycle → Option ℕ
first_forgotten sources k (p ∷ labels) = if is_forgotten sources k p then Some k else first_forgotten sources (k + 1) labels
first_forgotten sources k [] = None
