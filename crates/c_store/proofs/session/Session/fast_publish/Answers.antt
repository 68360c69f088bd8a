use Rattle.std.proofs.Common.{inl, inr, subst}
use Rattle.ds_machine.specs.declared.command.Command.{Command}
use Rattle.c_values.specs.Request.{publish_command}
use Rattle.script_answers.specs.declared.wording.Wording.TheVariants.{AsMerge}
use Rattle.c_store.specs.Called.{Tells}
use Rattle.c_values.proofs.AskedLemmas.{publish_takes_memory}
use Rattle.c_store.proofs.CalledLemmas.{stands_for_publish, stands_for_no_publish}
use Rattle.c_store.proofs.session.Session.fast_publish.Goals as goal

pub returns-in-Ok-Some : goal.returns-in-Ok-Some
returns-in-Ok-Some c =
    let asked = c.in-Ok-Some.asked in
    inl (record {
      command = publish_command asked;
      stands = stands_for_publish c.args.request.now c.args.text.now asked c.requires
          (rw c.in-Ok-Some.field-0-is at c.in-Ok-Some.ensures.read);
      answered = subst (λ (x : Command). Tells c.args.self.now AsMerge x c.answer.new.answer c.answer.new.self) c.command.ensures
          c.answer.ensures;
    })

pub returns-in-Ok-None : goal.returns-in-Ok-None
returns-in-Ok-None c = inr
    (inl (
      stands_for_no_publish c.args.request.now c.args.text.now c.requires (rw c.in-Ok-None.field-0-is at c.in-Ok-None.ensures.read),
      c.decline.ensures,
    ))

pub returns-in-Err : goal.returns-in-Err
returns-in-Err c = inr
    (inr (
      publish_takes_memory c.args.request.now c.args.text.now c.requires c.in-Err.ensures.room c.in-Err.ensures.some c.in-Err.ensures.fits,
      c.refuse.ensures,
    ))
