use Rattle.node_supervisor.proofs.MoveLemmas.{node_leaders_stay, nodes_agree, nodes_are_reachable, nodes_are_supervisors}
use Rattle.node_supervisor.proofs.laws.nodes_are_supervisors.Goals as goal

pub returns-clause-paths : goal.returns-clause-paths
returns-clause-paths c = nodes_are_supervisors

pub returns-clause-reachable : goal.returns-clause-reachable
returns-clause-reachable c = nodes_are_reachable

pub returns-clause-agree : goal.returns-clause-agree
returns-clause-agree c = nodes_agree

pub returns-clause-leaders : goal.returns-clause-leaders
returns-clause-leaders c = node_leaders_stay
