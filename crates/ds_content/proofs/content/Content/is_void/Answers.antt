use Rattle.std.proofs.Common.{ap, sym, ◌∙◌}
use Rattle.ds_entry.specs.Void.{is_void}
use Rattle.ds_held.specs.Held.{Holding, is_void_at}
use Rattle.ds_content.specs.Content.{ContentRecord}
use Rattle.ds_content.proofs.HoldingLemmas.{void-is}
use Rattle.ds_content.proofs.content.Content.is_void.Goals as goal

pub returns : goal.returns
returns c =
    c.is_void.ensures ∙ ap (λ (h : Holding). is_void_at h c.args.change.now) c.held.ensures.value ∙
    sym (void-is c.self.inside.held.held c.held.ensures.sound c.args.change.now)
    ∙ ap (λ (v : ContentRecord). is_void v.held c.args.change.now) c.self.view_is
