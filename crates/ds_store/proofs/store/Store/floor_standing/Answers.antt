use Rattle.std.proofs.Common.{ap, sym, ◌∙◌, subst}
use Rattle.std.specs.Option.{option_map}
use Rattle.ds_entry.specs.Floor.{floor_of}
use Rattle.ds_held.specs.Kept.{IsFloorPlace}
use Rattle.ds_machine.specs.Parts.{floors_in}
use Rattle.ds_content.specs.Content.{ContentRecord}
use Rattle.ds_store.proofs.StandingLemmas.{floor_back, floor_told_same}
use Rattle.ds_store.proofs.store.Store.floor_standing.Goals as goal
use Rattle.ds_content.specs.Standing.{floor_standing_in}

pub returns : goal.returns
returns c =
    let v = c.deref-content.result.now in
    let f = c.args.floor.now in
    let at = subst (λ (x : ContentRecord). IsFloorPlace (floors_in x.held) f.owner c.args.place)
    (sym (c.deref-content.ensures ∙ c.self.view_is)) c.requires in
    floor_told_same v f _ c.floor_count.result c.cursor.result.position
    (ap (option_map (floor_of f.owner)) (c.floor_at.ensures f.owner at) ∙ floor_back v.held f.owner)
    c.floor_count.ensures.count (ap (λ x. x.position) c.cursor.ensures.value)
    ∙ ap (λ (x : ContentRecord). floor_standing_in x f) (c.deref-content.ensures ∙ c.self.view_is)
