-- A host: its processes, what a supervisor keeps of its services, and the file of generations.
use Rattle.std.specs.Prelude.{ℕ, ◌==◌, Bool, false, List, Option, None, if◌then◌else◌}
use Rattle.process_rule.specs.Kernel.{Processes}

-- An instance whose leader was forked and isn't reaped.
pub record InstanceState : Type 0 where
  pub generation : ℕ
  pub leader : ℕ  -- the number of its leader, and of its process group
  pub deadline : Option ℕ  -- when SIGKILL may be sent to what is left of it; none while it is up

pub record ServiceState : Type 0 where
  pub instance : Option InstanceState
  pub pending : Option ℕ  -- the generation of a start whose process isn't forked yet
  pub clean : Bool  -- whether a scan found no leftover: no process of an earlier run of the supervisor

pub record Host : Type 0 where
  pub processes : Processes
  pub services : ℕ → ServiceState  -- by label
  pub next : ℕ  -- the generation of the next start
  pub file : ℕ  -- the generation from which the supervisor's next run continues, as it is on disk
  pub now : ℕ
  pub run : ℕ  -- the number of the supervisor's run
  pub given : List ℕ  -- the generations of all starts, the newest first, over all runs
  pub begun : List ℕ  -- of all leaders
  pub reported : List ℕ  -- of all instances whose death RS was informed of

-- A service at the beginning of a run.
abbrev pub new_service : ServiceState
new_service = record { instance = None; pending = None; clean = false }

-- The services with `s` under label `k`.
abbrev pub replaced : ℕ → ServiceState → (ℕ → ServiceState) → ℕ → ServiceState
replaced k s services j = if j == k then s else services j
