-- Processes and their numbers, as far as a supervisor depends on the kernel.
use Rattle.std.specs.Prelude.{◌≡◌, ℕ, ◌==◌, Bool, List, [], ◌∷◌, Option, Some, None, Contains, if◌then◌else◌}

-- A process that is alive, or that has exited and isn't reaped. Its children inherit its first three fields, which the kernel doesn't know.
pub record Process : Type 0 where
  pub label : ℕ  -- the service that it belongs to
  pub generation : ℕ  -- the instance that it belongs to
  pub found : Bool  -- whether a scan for processes of the instance finds it: in the instance's group, or by its mark
  pub group : ℕ  -- the number of its process group
  pub alive : Bool
  pub killed : Bool  -- SIGKILL was sent to it: it forks no more, and exits at some time
  pub leads : Bool  -- whether it is its instance's leader, which the supervisor forked
  pub run : ℕ  -- of a leader: the run of the supervisor that forked it

abbrev pub Processes : Type 0
Processes = ℕ → Option Process

-- The processes with `o` at number `n`.
abbrev pub put_process : ℕ → Option Process → Processes → Processes
put_process n o processes q = if q == n then o else processes q

-- Whether the kernel may give the number to a new process: no process has it, and no group.
pub record IsFreeNumber (processes : Processes) (n : ℕ) : Type 0 where
  pub process : processes n ≡ None
  pub group : (q : ℕ) (r : Process) → processes q ≡ Some r → r.group ≡ n → ⊥

-- Whether no number is in the list twice.
abbrev pub IsOnce : List ℕ → Type 0
IsOnce [] = Unit {0}
IsOnce (g ∷ gs) = (Contains gs g → ⊥) × IsOnce gs
