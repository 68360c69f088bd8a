use Rattle.std.proofs.Common.{length, ap, sym, ◌∙◌}
use Rattle.ds_held.specs.Held.{held_count}
use Rattle.ds_machine.specs.Parts.{changes_in}
use Rattle.ds_content.specs.Content.{ContentRecord}
use Rattle.ds_content.proofs.HoldingLemmas.{changes_counted}
use Rattle.ds_content.proofs.content.Content.count.Goals as goal

pub returns-clause-count : goal.returns-clause-count
returns-clause-count c =
    c.len.ensures.count ∙ ap held_count c.held.ensures.value ∙ sym (changes_counted c.self.inside.held.held) ∙
    ap (λ (v : ContentRecord). length (changes_in v.held)) c.self.view_is
