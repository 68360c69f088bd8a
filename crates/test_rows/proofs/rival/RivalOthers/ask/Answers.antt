use Rattle.std.proofs.Common.{[], ◌∷◌, refl}
use Rattle.ds_machine.specs.declared.command.Command.TheVariants.{Check}
use Rattle.test_rows.proofs.rival.RivalOthers.ask.Goals as goal

pub returns : goal.returns
returns c = λ s stands.
    let step = c.apply-reply.ensures.step s stands in (
      step.0,
      record { commands = Check c.args.self.now.sub 1 ∷ []; replies = c.apply-reply.result ∷ []; run = (step.0, step.1, refl) },
      step.2,
    )
