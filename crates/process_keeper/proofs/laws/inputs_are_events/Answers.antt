use Rattle.process_keeper.proofs.EventLemmas.{inputs_are_events, tasks_may_be_done}
use Rattle.process_keeper.proofs.laws.inputs_are_events.Goals as goal

pub returns-clause-inputs : goal.returns-clause-inputs
returns-clause-inputs c = inputs_are_events

pub returns-clause-tasks : goal.returns-clause-tasks
returns-clause-tasks c = tasks_may_be_done
