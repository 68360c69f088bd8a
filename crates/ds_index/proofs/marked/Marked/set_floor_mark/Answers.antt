use Rattle.std.proofs.Common.{◌∙◌, ap}
use Rattle.std.specs.List.{slice_get}
use Rattle.ds_held.specs.Held.{held_floors}
use Rattle.ds_index.specs.Marked.{floor_remarked}
use Rattle.ds_index.specs.Beside.{marks_beside_floors}
use Rattle.ds_index.proofs.FloorMarkLemmas.{floor_marks_set}
use Rattle.ds_index.proofs.marked.Marked.set_floor_mark.Goals as goal

pub returns-clause-floor_marks : goal.returns-clause-floor_marks
returns-clause-floor_marks g c =
    ap (marks_beside_floors (held_floors c.self.inside.held)) c.set_at.ensures
    ∙ floor_marks_set c.self.inside.held c.self.inside.floor_marks.items c.self.invariant.1 c.args.index c.args.mark
    ∙ ap (λ h. floor_remarked h.floor_marks (slice_get (held_floors h.held) c.args.index) c.args.mark) c.self.view_is
