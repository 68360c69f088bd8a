use Rattle.std.proofs.Common.{◌∙◌, ap, sym, subst}
use Rattle.std.specs.List.{slice_get}
use Rattle.ds_held.specs.Held.{held_changes}
use Rattle.ds_index.specs.Marked.{remarked}
use Rattle.ds_index.specs.Beside.{marks_beside, IsBeside}
use Rattle.ds_index.proofs.MarkLemmas.{rising_held, beside_set, marks_set}
use Rattle.ds_index.proofs.marked.Marked.set_mark.Goals as goal

pub invariant_of-self : goal.invariant_of-self
invariant_of-self g c = (
  subst (IsBeside c.self.inside.held) (sym c.set_row.ensures)
      (beside_set c.self.inside.held c.self.inside.marks c.self.invariant.0 c.args.index c.args.mark),
  c.self.invariant.1,
)

pub returns-clause-marks : goal.returns-clause-marks
returns-clause-marks g c =
    ap (marks_beside (held_changes c.self.inside.held)) c.set_row.ensures
    ∙ marks_set (held_changes c.self.inside.held) c.self.inside.marks c.args.index c.args.mark
    (rising_held c.self.inside.held c.self.invariant.0.sound) c.self.invariant.0.each
    ∙ ap (λ h. remarked h.marks (slice_get (held_changes h.held) c.args.index) c.args.mark) c.self.view_is
