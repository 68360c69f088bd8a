use Rattle.std.proofs.Common.{sym, ap, ◌∙◌}
use Rattle.std.specs.List.{slice_get}
use Rattle.ds_held.specs.Held.{Holding, held_floors}
use Rattle.ds_held.proofs.FloorLemmas.{floors_are}
use Rattle.ds_held.proofs.held.Held.floor_at.Goals as goal

pub returns : goal.returns
returns c =
    c.nth_floor.ensures ∙ ap (λ l. slice_get l c.args.index)
    (c.deref.ensures.value ∙ sym (floors_are c.self.inside.floors.items c.self.inside.changes c.self.inside.limits c.self.invariant.owners))
    ∙ ap (λ (h : Holding). slice_get (held_floors h) c.args.index) c.self.view_is
