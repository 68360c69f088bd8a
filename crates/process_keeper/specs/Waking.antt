-- When a settled label has a task without an input: a start is tried again, or a grace period is over.
use Rattle.std.specs.Prelude.{ℕ, min, nat_lt, Bool, List, Option, Some, None, if◌then◌else◌}
use Rattle.std.specs.List.{fold}
use Rattle.process_keeper.specs.declared.instance.Instance.{Instance}
use Rattle.process_keeper.specs.declared.lifecycle.Lifecycle.{Lifecycle}

-- A time that doesn't come.
abbrev pub never : ℕ
never = 18446744073709551615

-- The time, if it is still to come.
abbrev pub if_later : ℕ → ℕ → ℕ
if_later now at = if nat_lt now at then at else never

-- When a pending start is tried next.
abbrev pub fork_at : Option ℕ → ℕ → ℕ → ℕ
fork_at None at now = never
fork_at (Some g) at now = if_later now at

-- The deadline, unless SIGKILL was sent.
abbrev pub kill_at : Option ℕ → Bool → ℕ → ℕ
kill_at None killed now = never
kill_at (Some at) killed now = if killed then never else if_later now at

abbrev pub wakes_by : Option Instance → Option ℕ → Bool → ℕ → ℕ → ℕ
wakes_by None pending killed retry now = fork_at pending retry now
wakes_by (Some i) pending killed retry now = kill_at i.deadline killed now

-- When the label may have a task that it hasn't now.
abbrev pub wakes_at : Lifecycle → ℕ → ℕ
wakes_at p now = wakes_by p.instance p.pending p.is_killed p.retry_at now

-- The first such time of all labels.
abbrev pub due_at : List Lifecycle → ℕ → ℕ
due_at labels now = fold (λ at p. min at (wakes_at p now)) never labels
