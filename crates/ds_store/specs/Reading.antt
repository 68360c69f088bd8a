-- What a reader gets.
use Rattle.std.specs.Prelude.{ℕ, Option}
use Rattle.ds_names.specs.declared.key.Key.{Key}
use Rattle.ds_feed.specs.declared.reading.Page.{Page}
use Rattle.ds_feed.specs.declared.reading.Snapshot.{Snapshot}
use Rattle.ds_feed.specs.Page.{page_of, snapshot_of}
use Rattle.ds_machine.specs.Scope.{is_kept}
use Rattle.ds_machine.specs.State.{State, held, cursor}
use Rattle.ds_machine.specs.declared.command.Scope.{Scope}

-- The page of what the state holds under the scope.
abbrev pub page_in : State → Scope → Option Key → ℕ → Page
page_in s scope after max = page_of (is_kept scope) after max (held s) (cursor s)

-- The snapshot of everything that the state holds under the scope.
abbrev pub snapshot_in : State → Scope → Snapshot
snapshot_in s scope = snapshot_of (is_kept scope) (held s) (cursor s)
