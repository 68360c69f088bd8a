use Rattle.std.proofs.Common.{ap, sym, ◌∙◌}
use Rattle.ds_held.specs.Held.{Holding, held_for}
use Rattle.ds_machine.specs.Parts.{held_at}
use Rattle.ds_content.specs.Content.{ContentRecord}
use Rattle.ds_content.proofs.HoldingLemmas.{held_at-is}
use Rattle.ds_content.proofs.content.Content.get.Goals as goal

pub returns-clause-value : goal.returns-clause-value
returns-clause-value c =
    c.get.ensures.value ∙ ap (λ (h : Holding). held_for h c.args.key.now) c.held.ensures.value ∙
    sym (held_at-is c.self.inside.held.held c.held.ensures.sound c.args.key.now)
    ∙ ap (λ (v : ContentRecord). held_at v.held c.args.key.now) c.self.view_is
