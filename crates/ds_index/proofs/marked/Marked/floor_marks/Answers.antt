use Rattle.std.proofs.Common.{length, ap, ◌∙◌, subst}
use Rattle.std.specs.List.{slice_get}
use Rattle.ds_index.specs.Marked.{AreFloorMarks}
use Rattle.ds_index.proofs.FloorMarkLemmas.{own_floor_mark}
use Rattle.ds_index.proofs.marked.Marked.floor_marks.Goals as goal

pub returns : goal.returns
returns g c =
    subst (λ h. AreFloorMarks h c.as_slice.result.now) c.self.view_is (record {
      each = ap length c.as_slice.ensures.value ∙ c.self.invariant.1;
      own = λ k x e. ap (λ l. slice_get l k) c.as_slice.ensures.value ∙
          own_floor_mark c.self.inside.held c.self.inside.floor_marks.items c.self.invariant.1 k x e;
    })
