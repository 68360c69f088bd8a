use Rattle.std.proofs.Common.{◌≡◌, sym, ◌∙◌, subst, IfOk}
use Rattle.ds_feed.specs.Page.{page_of}
use Rattle.ds_feed.specs.declared.reading.Page.{Page}
use Rattle.ds_machine.specs.Scope.{is_kept}
use Rattle.ds_machine.specs.State.{held, cursor}
use Rattle.ds_machine.specs.declared.command.Scope.{Scope}
use Rattle.ds_content.specs.Content.{ContentRecord}
use Rattle.ds_content.specs.Stands.{ContentStands}
use Rattle.ds_store.proofs.store.Store.give_page.Goals as goal

pub returns-clause-value : goal.returns-clause-value
returns-clause-value c = λ s stands.
    let here : ContentStands c.deref.result.now s =
    subst (λ (x : ContentRecord). ContentStands x s) (sym (c.deref.ensures ∙ c.self.view_is)) stands in
    subst (λ (x : Scope). IfOk c.page.result (λ (page : Page). page ≡ page_of (is_kept x) c.args.after c.args.max (held s) (cursor s)))
    c.in_ok-asker.ensures.asks (c.page.ensures.stands s here)
