use Rattle.std.proofs.Common.{sym, ◌∙◌, ap, subst}
use Rattle.ds_held.specs.Held.{Holding, held_floors}
use Rattle.ds_held.specs.Kept.{IsFloorPlace}
use Rattle.ds_machine.specs.Parts.{floors_in}
use Rattle.ds_content.specs.Content.{ContentRecord}
use Rattle.ds_content.proofs.HoldingLemmas.{floors_are}
use Rattle.ds_content.proofs.content.Content.floor_place.Goals as goal

pub returns : goal.returns
returns c =
    subst (λ (v : ContentRecord). IsFloorPlace (floors_in v.held) c.args.owner.now c.floor_place.result) c.self.view_is
    (subst (λ l. IsFloorPlace l c.args.owner.now c.floor_place.result)
    (ap (λ (h : Holding). held_floors h) c.held.ensures.value ∙ sym (floors_are c.self.inside.held.held)) c.floor_place.ensures)
