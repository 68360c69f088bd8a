-- What is read of keepers.
use Rattle.std.specs.Prelude.{◌≡◌, ◌+◌, ◌<◌, ◌≤◌, ◌⊎◌, ℕ, false, Option, None, Some, IfSome, IsNone}
use Rattle.std.specs.List.{All}
use Rattle.process_keeper.specs.Doing.{IsSettled}
use Rattle.process_keeper.specs.Order.{IsFirst, MayBeNext, is_rest}
use Rattle.process_keeper.specs.Waking.{due_at}
use Rattle.process_keeper.specs.declared.task.Task.{Task}
use Rattle.rs_core.specs.State.{RsRecord}
use Rattle.node_supervisor.specs.declared.processes.Processes.{Processes}
use Rattle.c_keeper.specs.declared.task.KeeperTask.{KeeperTask}
use Rattle.c_keeper.specs.Tasks.{next_task}

-- Whether the struct has the next task, which the rule allows. If it is a wait, every label is settled. A start is next only if nothing
-- else is to be done.
pub record IsNextTask (p : Processes) (services : Option RsRecord) (now : ℕ) (task : KeeperTask) : Type 0 where
  pub next : Option (ℕ × Task)
  pub may : IfSome next (λ n. MayBeNext p.keeper.labels.items now n)
  pub busy : IfSome next (λ n. is_rest n.1 ≡ false)
  pub order : IfSome next (λ n. IsFirst p.keeper.labels.items now n.1)
  pub rest : IsNone next → All (λ q. IsSettled q now) p.keeper.labels.items
  pub struct_is : task ≡ next_task services next

-- Whether this is the next task; there is none unless keepers are open.
abbrev pub ReadsTask : Option Processes → Option RsRecord → ℕ → Option KeeperTask → Type 0
ReadsTask None services now task = task ≡ None
ReadsTask (Some p) services now None = ⊥
ReadsTask (Some p) services now (Some task) = IsNextTask p services now task

-- The first time at which a settled label has a task.
abbrev pub due_of : Option Processes → ℕ → Option ℕ
due_of None now = None
due_of (Some p) now = Some (due_at p.keeper.labels.items now)

-- Whether this generation is to be written; or none is, since the file is ahead, or no number is left.
abbrev pub ReadsToWrite : Option Processes → Option ℕ → Type 0
ReadsToWrite None next = next ≡ None
ReadsToWrite (Some p) None = (p.keeper.next < p.keeper.file) ⊎ (18446744073709551616 ≤ p.keeper.next + 64)
ReadsToWrite (Some p) (Some next) = next ≡ p.keeper.next + 64
