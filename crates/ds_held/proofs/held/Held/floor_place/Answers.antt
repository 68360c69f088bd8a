use Rattle.std.proofs.Common.{sym, ◌∙◌, subst}
use Rattle.ds_held.specs.Held.{Holding, held_floors}
use Rattle.ds_held.specs.Kept.{IsFloorPlace}
use Rattle.ds_held.proofs.FloorLemmas.{floors_are}
use Rattle.ds_held.proofs.held.Held.floor_place.Goals as goal

pub returns : goal.returns
returns c =
    subst (λ (h : Holding). IsFloorPlace (held_floors h) c.args.owner.now c.place_of.result) c.self.view_is
    (subst (λ l. IsFloorPlace l c.args.owner.now c.place_of.result)
    (c.deref.ensures.value ∙ sym (floors_are c.self.inside.floors.items c.self.inside.changes c.self.inside.limits
    c.self.invariant.owners)) c.place_of.ensures)
