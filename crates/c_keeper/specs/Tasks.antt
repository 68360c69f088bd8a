-- Tasks in numbers.
use Rattle.std.specs.Prelude.{ℕ, Option, None, Some}
use Rattle.ds_names.specs.Endpoint.{EndpointRecord}
use Rattle.process_keeper.specs.declared.task.Task.{Task}
use Rattle.process_keeper.specs.declared.task.Task.TheVariants.{Rest, Clear, Fork, Report, Ask, Kill, Scan, Reap}
use Rattle.rs_core.specs.Late.{endpoint_in_force}
use Rattle.rs_core.specs.State.{RsRecord, state_at}
use Rattle.c_keeper.specs.declared.task.KeeperTask.{KeeperTask}

-- The task of a kind, with zeros for the rest.
abbrev pub empty_task : ℕ → ℕ → KeeperTask
empty_task kind service = record { leader = 0; generation = 0; service = service; kind = kind; slot = 0 }

-- The task with a generation and the slot of the endpoint, and with a leader.
abbrev pub task_with_generation : KeeperTask → ℕ → Option EndpointRecord → KeeperTask
task_with_generation task generation None = record task { generation = generation }
task_with_generation task generation (Some endpoint) = record task { generation = generation; slot = endpoint.slot }

abbrev pub task_with_leader : KeeperTask → ℕ → KeeperTask
task_with_leader task leader = record task { leader = leader }

-- The struct of a task of a service that RS counts as up at this endpoint.
abbrev pub task_struct : ℕ → Task → Option EndpointRecord → KeeperTask
task_struct service Rest endpoint = empty_task 0 service
task_struct service Clear endpoint = empty_task 1 service
task_struct service (Fork generation) endpoint = task_with_generation (empty_task 2 service) generation endpoint
task_struct service (Report generation) endpoint = task_with_generation (empty_task 3 service) generation endpoint
task_struct service (Ask leader) endpoint = task_with_leader (empty_task 4 service) leader
task_struct service (Kill leader) endpoint = task_with_leader (empty_task 5 service) leader
task_struct service (Scan leader) endpoint = task_with_leader (empty_task 6 service) leader
task_struct service (Reap leader) endpoint = task_with_leader (empty_task 7 service) leader

-- The endpoint of the service's instance that RS counts as up.
abbrev pub endpoint_of_service : Option RsRecord → ℕ → Option EndpointRecord
endpoint_of_service None service = None
endpoint_of_service (Some rs) service = endpoint_in_force (state_at rs service)

-- The struct of the next task. A wait, if there is none.
abbrev pub next_task : Option RsRecord → Option (ℕ × Task) → KeeperTask
next_task services None = empty_task 0 0
next_task services (Some next) = task_struct next.0 next.1 (endpoint_of_service services next.0)
