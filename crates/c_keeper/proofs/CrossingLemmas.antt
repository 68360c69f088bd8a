-- A session with keepers may go to another thread: RS's session may, and the keepers are plain data and a list.
use denote.Param.Send.{IsSend, sendable}
use denote.Param.SendFields.{declared_send}
use Rattle.std.proofs.Crossing.{crosses}
use Rattle.process_keeper.specs.contracts.lifecycle.Lifecycle as Lifecycle
use Rattle.process_keeper.specs.contracts.keeper.Keeper as Keeper
use Rattle.node_supervisor.specs.contracts.processes.Processes as Processes
use Rattle.c_rs.proofs.CrossingLemmas.{rs_session_send}
use Rattle.c_keeper.specs.contracts.session.KeeperSession as KeeperSession

lifecycle_send : IsSend Lifecycle.the_row
lifecycle_send = search sendable fits 20000 depth 80

keeper_send : IsSend Keeper.the_row
keeper_send = declared_send Keeper.the_type
    (search (lifecycle_send, crosses, sendable) depth 40, (search sendable depth 40, (search sendable depth 40, tt)))

processes_send : IsSend Processes.the_row
processes_send = declared_send Processes.the_type (search (keeper_send, sendable) depth 40, tt)

pub keeper_session_send : IsSend KeeperSession.the_row
keeper_session_send = declared_send KeeperSession.the_type
    (search (rs_session_send, sendable) depth 40, (search (processes_send, sendable) depth 40, tt))
