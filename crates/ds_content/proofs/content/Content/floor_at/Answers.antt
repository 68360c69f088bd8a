use Rattle.std.proofs.Common.{◌≡◌, ℕ, List, Some, None, Result, refl, ap, sym, ◌∙◌, subst}
use Rattle.std.specs.List.{slice_get}
use Rattle.std.specs.Option.{option_map}
use Rattle.ds_entry.specs.declared.floor.Floor.{Floor}
use Rattle.ds_held.specs.Held.{Holding, held_items, held_floors}
use Rattle.ds_held.specs.Kept.{IsFloorPlace}
use Rattle.ds_machine.specs.Parts.{floors_in, floor_at}
use Rattle.ds_content.specs.Content.{ContentRecord}
use Rattle.ds_content.specs.Kept.{content_of}
use Rattle.ds_content.proofs.HoldingLemmas.{floors_are, generation_at, no_generation_at}
use Rattle.ds_content.proofs.content.Content.floor_at.Goals as goal

-- the place is one among the floors that are held
at : (h : Holding) (v now : ContentRecord) (owner : List ℕ) (place : Result ℕ ℕ) → v ≡ now → held_items h ≡ v.held →
    IsFloorPlace (floors_in now.held) owner place → IsFloorPlace (held_floors h) owner place
at h v now owner place is items p =
    subst (λ l. IsFloorPlace l owner place) (ap floors_in (sym items) ∙ floors_are h)
    (subst (λ (x : ContentRecord). IsFloorPlace (floors_in x.held) owner place) (sym is) p)

pub returns-in_default : goal.returns-in_default
returns-in_default c = λ owner p.
    let h = c.self.inside.held.held in
    no_generation_at h c.held-held.ensures.sound owner c.args.place
    (at h (content_of c.self.inside) c.args.self.now owner c.args.place c.self.view_is refl p) c.in_default.field-0 c.in_default.is
    ∙ ap (λ (v : ContentRecord). option_map (λ (f : Floor). f.generation) (floor_at v.held owner)) c.self.view_is

pub returns-in_err-floor : goal.returns-in_err-floor
returns-in_err-floor c = λ owner p.
    let h = c.self.inside.held.held in
    c.from_residual.ensures
    ∙ generation_at h c.held-held.ensures.sound owner c.args.place
    (at h (content_of c.self.inside) c.args.self.now owner c.args.place c.self.view_is refl p) c.in-Ok.index c.in-Ok.is None
    (sym c.in_err-floor.was ∙ c.floor_at.ensures ∙ ap (λ (x : Holding). slice_get (held_floors x) c.in-Ok.index) c.held-held.ensures.value)
    ∙ ap (λ (v : ContentRecord). option_map (λ (f : Floor). f.generation) (floor_at v.held owner)) c.self.view_is

pub returns : goal.returns
returns c = λ owner p.
    let h = c.self.inside.held.held in
    generation_at h c.held-held.ensures.sound owner c.args.place
    (at h (content_of c.self.inside) c.args.self.now owner c.args.place c.self.view_is refl p) c.in-Ok.index c.in-Ok.is
    (Some c.in_ok-floor.floor)
    (sym c.in_ok-floor.was ∙ c.floor_at.ensures ∙ ap (λ (x : Holding). slice_get (held_floors x) c.in-Ok.index) c.held-held.ensures.value)
    ∙ ap (λ (v : ContentRecord). option_map (λ (f : Floor). f.generation) (floor_at v.held owner)) c.self.view_is
