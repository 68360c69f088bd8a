use Rattle.std.proofs.Common.{true, [], ◌∷◌, refl}
use Rattle.ds_entry.specs.declared.body.Value.TheVariants.{U32}
use Rattle.ds_machine.specs.declared.command.Command.TheVariants.{Publish}
use Rattle.test_rows.proofs.driver.DriverOthers.ask.Goals as goal

pub returns-after-matches : goal.returns-after-matches
returns-after-matches c = λ s stands.
    let step = c.apply-reply.ensures.step s stands in
    let driver = c.args.self.now in (
      step.0,
      record {
        commands = Publish driver.endpoint c.in-Some.key driver.version (U32 1500) true ∷ [];
        replies = c.apply-reply.result ∷ [];
        run = (step.0, step.1, refl);
      },
      step.2,
    )

pub returns-in_default : goal.returns-in_default
returns-in_default c = λ s stands. (s, record { commands = []; replies = []; run = refl }, stands)
