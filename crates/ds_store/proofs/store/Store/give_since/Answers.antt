use Rattle.std.proofs.Common.{sym, ◌∙◌, subst}
use Rattle.ds_feed.specs.Since.{IsGiven}
use Rattle.ds_machine.specs.Scope.{is_kept}
use Rattle.ds_machine.specs.declared.command.Scope.{Scope}
use Rattle.ds_content.specs.Content.{ContentRecord}
use Rattle.ds_content.specs.Stands.{ContentStands}
use Rattle.ds_store.proofs.store.Store.give_since.Goals as goal

-- what is returned under the scope's matcher is returned under the scope that was read
pub returns-in-Ok-since-clause-given : goal.returns-in-Ok-since-clause-given
returns-in-Ok-since-clause-given c = λ s stands.
    let here : ContentStands c.deref.result.now s =
    subst (λ (x : ContentRecord). ContentStands x s) (sym (c.deref.ensures ∙ c.self.view_is)) stands in
    subst (λ (x : Scope). IsGiven s.feed (is_kept x) c.args.cursor c.args.max c.in-Ok-since.since) c.in-Ok.ensures.asks
    (c.in-Ok-since.ensures.given s here)
