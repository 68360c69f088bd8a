use Rattle.std.proofs.Common.{ap, ◌∙◌}
use Rattle.ds_feed.specs.Page.{page_of}
use Rattle.ds_machine.specs.Calling.{against_page}
use Rattle.ds_machine.specs.Order.{first_refusal}
use Rattle.ds_machine.specs.Scope.{is_kept}
use Rattle.ds_machine.specs.State.{held, cursor}
use Rattle.ds_machine.specs.declared.command.Scope.{Scope}
use Rattle.ds_machine.specs.declared.reply.Reply.TheVariants.{Paged}
use Rattle.ds_store.proofs.ReadingLemmas.{free_answer}
use Rattle.ds_store.proofs.store.Store.page.Goals as goal

pub returns-in-Ok-give_page-clause-answer : goal.returns-in-Ok-give_page-clause-answer
returns-in-Ok-give_page-clause-answer c = λ s stands.
    free_answer s (first_refusal (against_page c.args.scope.now c.args.max))
    (Paged (page_of (is_kept c.args.scope.now) c.args.after c.args.max (held s) (cursor s))) (Paged c.in-Ok-give_page.page)
    c.in-Ok.ensures.none
    (ap Paged (c.in-Ok-give_page.ensures.value s stands ∙
    ap (λ (x : Scope). page_of (is_kept x) c.args.after c.args.max (held s) (cursor s)) c.in-Ok.ensures.read))
