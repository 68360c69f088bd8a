use Rattle.std.proofs.Common.{ap, refl}
use Rattle.process_keeper.specs.Sight.{instance_state, some_instance}
use Rattle.process_keeper.proofs.lifecycle.Lifecycle.task.Goals as goal

-- src/tasks.rt:12:5
pub returns-then-self-2-clause-may : goal.returns-then-self-2-clause-may
returns-then-self-2-clause-may c =
    (instance_state c.in-Some.instance, ap some_instance c.in-Some.is, refl, c.in-None-deadline.is, c.if-self-2.true)
