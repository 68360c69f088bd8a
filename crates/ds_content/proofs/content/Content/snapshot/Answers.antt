use Rattle.std.proofs.Common.{◌≢◌, [], List, filter, ap, ◌∙◌, subst}
use Rattle.ds_entry.specs.Item.{passes}
use Rattle.ds_entry.specs.declared.item.Item.{Item}
use Rattle.ds_held.specs.Held.{held_items}
use Rattle.ds_machine.specs.State.{held}
use Rattle.ds_content.proofs.OpenLemmas.{on_err}
use Rattle.ds_content.specs.Content.{ContentRecord}
use Rattle.ds_content.proofs.content.Content.snapshot.Goals as goal

pub returns-in_err-items-clause-lacks : goal.returns-in_err-items-clause-lacks
returns-in_err-items-clause-lacks g c = λ s stands.
    on_err c.from_residual.result (filter (passes (g.S.KeyScope.keeps c.args.scope.now)) (held s) ≢ [])
    (subst (λ (l : List Item). filter (passes (g.S.KeyScope.keeps c.args.scope.now)) l ≢ [])
    (ap held_items c.held.ensures.value ∙ ap (λ (v : ContentRecord). v.held) c.self.view_is ∙ stands.held) c.in_err-items.ensures.lacks)
