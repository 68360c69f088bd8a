use Rattle.c_rs.proofs.NodeLemmas.{calls_are_node_turns}
use Rattle.c_rs.proofs.RunningLemmas.{calls_are_turns}
use Rattle.c_rs.proofs.running.calls_are_turns.Goals as goal

pub returns-clause-store : goal.returns-clause-store
returns-clause-store c = calls_are_turns

pub returns-clause-node : goal.returns-clause-node
returns-clause-node c = calls_are_node_turns
