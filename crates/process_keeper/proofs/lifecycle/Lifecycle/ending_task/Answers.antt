use Rattle.std.proofs.Common.{ap, refl}
use Rattle.process_keeper.specs.Sight.{instance_state, some_instance}
use Rattle.process_keeper.proofs.lifecycle.Lifecycle.ending_task.Goals as goal

pub returns-then-self-3-clause-may : goal.returns-then-self-3-clause-may
returns-then-self-3-clause-may c = (
  instance_state c.args.instance,
  (ap some_instance c.requires.instance, refl, (c.args.at, c.requires.deadline)),
  c.if-self.true,
  c.if-self-2.true,
  c.if-self-3.true,
)

pub returns-then-not-self-clause-may : goal.returns-then-not-self-clause-may
returns-then-not-self-clause-may c = (
  instance_state c.args.instance,
  (ap some_instance c.requires.instance, refl, (c.args.at, c.requires.deadline)),
  c.if-not-self.true,
)

pub returns-then-not-self-2-clause-may : goal.returns-then-not-self-2-clause-may
returns-then-not-self-2-clause-may c = (
  instance_state c.args.instance,
  ap some_instance c.requires.instance,
  refl,
  record { at = c.args.at; set = c.requires.deadline; passed = c.if-at-now.true },
  c.if-not-self.false,
  c.if-not-self-2.true,
)

pub returns-then-not-self-3-clause-may : goal.returns-then-not-self-3-clause-may
returns-then-not-self-3-clause-may c = (
  instance_state c.args.instance,
  (ap some_instance c.requires.instance, refl, (c.args.at, c.requires.deadline)),
  c.if-self-4.true,
  c.if-not-self-3.true,
)
