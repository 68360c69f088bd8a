use Rattle.std.proofs.Common.{List, ap, sym, ◌∙◌}
use Rattle.ds_entry.specs.Change.{ChangeRecord}
use Rattle.ds_join.specs.Label.{first_name_of}
use Rattle.ds_machine.specs.Parts.{changes_in}
use Rattle.ds_content.specs.Content.{ContentRecord}
use Rattle.ds_content.proofs.HoldingLemmas.{changes_are}
use Rattle.ds_content.proofs.content.Content.label_of.Goals as goal

pub returns : goal.returns
returns c =
    c.name_of.ensures
    ∙ ap (λ (l : List ChangeRecord). first_name_of c.args.endpoint l) (sym (changes_are c.self.inside.held.held))
    ∙ ap (λ (v : ContentRecord). first_name_of c.args.endpoint (changes_in v.held)) c.self.view_is
