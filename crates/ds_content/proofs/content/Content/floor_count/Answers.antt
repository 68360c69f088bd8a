use Rattle.std.proofs.Common.{length, ap, sym, ◌∙◌}
use Rattle.ds_held.specs.Held.{floor_count}
use Rattle.ds_machine.specs.Parts.{floors_in}
use Rattle.ds_content.specs.Content.{ContentRecord}
use Rattle.ds_content.proofs.HoldingLemmas.{floors_counted}
use Rattle.ds_content.proofs.content.Content.floor_count.Goals as goal

pub returns-clause-count : goal.returns-clause-count
returns-clause-count c =
    c.floor_count.ensures.count ∙ ap floor_count c.held.ensures.value ∙ sym (floors_counted c.self.inside.held.held) ∙
    ap (λ (v : ContentRecord). length (floors_in v.held)) c.self.view_is
