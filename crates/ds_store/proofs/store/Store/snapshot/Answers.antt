use Rattle.std.proofs.Common.{ap, ◌∙◌}
use Rattle.ds_machine.specs.Calling.{against_scope}
use Rattle.ds_machine.specs.Order.{first_refusal}
use Rattle.ds_machine.specs.declared.reply.Reply.TheVariants.{Snapped}
use Rattle.ds_store.specs.Reading.{snapshot_in}
use Rattle.ds_store.proofs.ReadingLemmas.{free_answer}
use Rattle.ds_store.proofs.store.Store.snapshot.Goals as goal

pub returns-in-Ok-give_snapshot-clause-answer : goal.returns-in-Ok-give_snapshot-clause-answer
returns-in-Ok-give_snapshot-clause-answer c = λ s stands.
    free_answer s (first_refusal (against_scope c.args.scope.now)) (Snapped (snapshot_in s c.args.scope.now))
    (Snapped c.in-Ok-give_snapshot.snapshot)
    c.in-Ok.ensures.none
    (ap Snapped (c.in-Ok-give_snapshot.ensures.value s stands ∙ ap (snapshot_in s) c.in-Ok.ensures.read))
