use Rattle.std.proofs.Common.{ap, sym, ◌∙◌}
use Rattle.std.specs.Option.{option_map}
use Rattle.ds_entry.specs.declared.floor.Floor.{Floor}
use Rattle.ds_held.specs.Held.{Holding, floor_for}
use Rattle.ds_machine.specs.Parts.{floor_at}
use Rattle.ds_content.specs.Content.{ContentRecord}
use Rattle.ds_content.proofs.HoldingLemmas.{floor_at-is, generation_of}
use Rattle.ds_content.proofs.content.Content.floor.Goals as goal

pub returns : goal.returns
returns c =
    let owner = c.args.owner.now in
    let h = c.self.inside.held.held in
    c.floor.ensures.value ∙ ap (λ (x : Holding). floor_for x owner) c.held.ensures.value ∙ generation_of owner (floor_for h owner)
    ∙ ap (option_map (λ (f : Floor). f.generation)) (sym (floor_at-is h c.held.ensures.sound owner))
    ∙ ap (λ (v : ContentRecord). option_map (λ (f : Floor). f.generation) (floor_at v.held owner)) c.self.view_is
