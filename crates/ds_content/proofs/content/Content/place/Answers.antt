use Rattle.std.proofs.Common.{sym, ◌∙◌, ap, subst}
use Rattle.ds_held.specs.Held.{Holding, held_changes}
use Rattle.ds_held.specs.Kept.{IsPlace}
use Rattle.ds_machine.specs.Parts.{changes_in}
use Rattle.ds_content.specs.Content.{ContentRecord}
use Rattle.ds_content.proofs.HoldingLemmas.{changes_are}
use Rattle.ds_content.proofs.content.Content.place.Goals as goal

pub returns : goal.returns
returns c =
    subst (λ (v : ContentRecord). IsPlace (changes_in v.held) c.args.key.now c.place.result) c.self.view_is
    (subst (λ l. IsPlace l c.args.key.now c.place.result)
    (ap (λ (h : Holding). held_changes h) c.held.ensures.value ∙ sym (changes_are c.self.inside.held.held)) c.place.ensures)
