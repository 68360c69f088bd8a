use Rattle.std.proofs.Common.{◌≡◌, sym, ◌∙◌, subst, IfOk}
use Rattle.ds_feed.specs.declared.reading.Snapshot.{Snapshot}
use Rattle.ds_machine.specs.declared.command.Scope.{Scope}
use Rattle.ds_content.specs.Content.{ContentRecord}
use Rattle.ds_content.specs.Stands.{ContentStands}
use Rattle.ds_store.specs.Reading.{snapshot_in}
use Rattle.ds_store.proofs.store.Store.give_snapshot.Goals as goal

pub returns-clause-value : goal.returns-clause-value
returns-clause-value c = λ s stands.
    let here : ContentStands c.deref.result.now s =
    subst (λ (x : ContentRecord). ContentStands x s) (sym (c.deref.ensures ∙ c.self.view_is)) stands in
    subst (λ (x : Scope). IfOk c.snapshot.result (λ (snapshot : Snapshot). snapshot ≡ snapshot_in s x)) c.in_ok-asker.ensures.asks
    (c.snapshot.ensures.stands s here)
