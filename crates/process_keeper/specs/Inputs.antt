-- The table of inputs: when a label accepts each, and what becomes of the label.
use Rattle.std.specs.Prelude.{ℕ, ◌+◌, ◌*◌, ◌^◌, nat_le, nat_lt, ◌&&◌, not, is_some, Bool, true, false, Option, Some, None, if◌then◌else◌}
use Rattle.process_keeper.specs.declared.instance.Instance.{Instance}
use Rattle.process_keeper.specs.declared.input.Input.{Input}
use Rattle.process_keeper.specs.declared.input.Input.TheVariants.{Started, Cancelled, Stopped, Shortened, Begun, Failed, Exited, Changed}
use Rattle.process_keeper.specs.declared.input.Input.TheVariants.{Asked, Killed, Scanned, Reported, Reaped, Cleared}
use Rattle.process_keeper.specs.declared.lifecycle.Lifecycle.{Lifecycle}
use Rattle.process_keeper.specs.declared.scan.Scan.{Scan}
use Rattle.process_keeper.specs.declared.scan.Scan.TheVariants.{Nothing, Dying, Living}

-- Whether an instance is up: it has no deadline.
abbrev pub is_running : Option Instance → Bool
is_running None = false
is_running (Some i) = not (is_some i.deadline)

-- Whether an instance was stopped or reported.
abbrev pub is_stopping : Option Instance → Bool
is_stopping None = false
is_stopping (Some i) = is_some i.deadline

abbrev pub is_by : ℕ → Option ℕ → Bool
is_by at None = false
is_by at (Some t) = nat_le at t

-- Whether the instance has a deadline at this time or later.
abbrev pub is_due_by : ℕ → Option Instance → Bool
is_due_by at None = false
is_due_by at (Some i) = is_by at i.deadline

abbrev pub is_accepted : Lifecycle → Input → Bool
is_accepted p (Started g) = not (is_some p.pending) && not (is_running p.instance)
is_accepted p Cancelled = true
is_accepted p (Stopped at) = is_running p.instance
is_accepted p (Shortened at) = is_due_by at p.instance
is_accepted p (Begun n) = is_some p.pending && (not (is_some p.instance) && p.is_clean)
is_accepted p (Failed now) = is_some p.pending
is_accepted p Exited = is_some p.instance
is_accepted p Changed = true
is_accepted p Asked = is_stopping p.instance
is_accepted p Killed = is_stopping p.instance
is_accepted p (Scanned found) = true
is_accepted p (Reported now) = is_running p.instance && p.has_exited
is_accepted p Reaped = is_stopping p.instance && (p.has_exited && (p.is_scanned && p.is_empty))
is_accepted p Cleared = not p.is_clean

-- The instance with a deadline.
abbrev pub with_deadline : Option Instance → ℕ → Option Instance
with_deadline None at = None
with_deadline (Some i) at = Some (record { generation = i.generation; leader = i.leader; deadline = Some at })

-- The instance whose leader was forked for the pending start.
abbrev pub with_leader : Option ℕ → ℕ → Option Instance
with_leader None n = None
with_leader (Some g) n = Some (record { generation = g; leader = n; deadline = None })

-- The label with nothing seen of an instance.
abbrev pub forgotten : Lifecycle → Lifecycle
forgotten p = record p { has_exited = false; is_asked = false; is_killed = false; is_empty = false; is_scanned = false }

-- The pause after one more failed attempt, in milliseconds: twice as long, and ten seconds at most.
abbrev pub next_pause : ℕ → ℕ
next_pause pause = if nat_lt pause 5000 then pause * 2 else 10000

-- The time after the pause, or the greatest time.
abbrev pub paused_until : ℕ → ℕ → ℕ
paused_until now pause = if nat_lt (now + pause) (2 ^ 64) then now + pause else 18446744073709551615

abbrev pub after_scan : Lifecycle → Scan → Lifecycle
after_scan p Nothing = record p { is_scanned = true; is_empty = true }
after_scan p Dying = record p { is_scanned = true; is_empty = false }
after_scan p Living = record p { is_scanned = true; is_empty = false; is_killed = false }

abbrev pub after_input : Lifecycle → Input → Lifecycle
after_input p (Started g) = record p { pending = Some g; retry_at = 0; pause = 100 }
after_input p Cancelled = record p { pending = None }
after_input p (Stopped at) = record p { instance = with_deadline p.instance at; is_scanned = false }
after_input p (Shortened at) = record p { instance = with_deadline p.instance at }
after_input p (Begun n) = record (forgotten p) { instance = with_leader p.pending n; pending = None }
after_input p (Failed now) = record p { retry_at = paused_until now p.pause; pause = next_pause p.pause }
after_input p Exited = record p { has_exited = true; is_empty = false; is_scanned = false }
after_input p Changed = record p { is_scanned = false }
after_input p Asked = record p { is_asked = true }
after_input p Killed = record p { is_killed = true; is_scanned = false }
after_input p (Scanned found) = after_scan p found
-- What is left of an instance that died by itself has no grace period, and no SIGTERM.
after_input p (Reported now) = record p { instance = with_deadline p.instance now; is_asked = true; is_scanned = false }
after_input p Reaped = record (forgotten p) { instance = None }
after_input p Cleared = record p { is_clean = true; is_scanned = false }
