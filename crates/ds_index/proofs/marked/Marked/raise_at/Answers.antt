use Rattle.std.proofs.Common.{sym, subst}
use Rattle.ds_held.specs.Held.{held_floors}
use Rattle.ds_held.specs.Kept.{IsFloorPlace}
use Rattle.ds_index.proofs.PutLemmas.{raised_with}
use Rattle.ds_index.proofs.marked.Marked.raise_at.Goals as goal

pub invariant_of-self : goal.invariant_of-self
invariant_of-self g c =
    let at = subst (λ h. IsFloorPlace (held_floors h.held) c.args.floor.owner c.args.place) (sym c.self.view_is) c.requires.place in
    let is =
    (raised_with c.self.inside.held c.self.inside.marks c.self.inside.floor_marks.items c.self.invariant.0 c.self.invariant.1 c.args.floor
    c.args.place at c.args.mark c.args.self.now c.self.view_is
    c.raise_marked.result c.raise_marked.new.held c.raise_marked.new.marks c.raise_marked.new.floor_marks.items
    c.raise_marked.ensures.sound c.raise_marked.ensures.after c.raise_marked.ensures.list
    c.raise_marked.ensures.marks c.raise_marked.ensures.floor_marks c.raise_marked.ensures.same c.raise_marked.ensures.same_marks
    c.raise_marked.ensures.same_floor_marks) in
    (is.marks, is.floor_marks)

pub returns-clause-raised : goal.returns-clause-raised
returns-clause-raised g c =
    let at = subst (λ h. IsFloorPlace (held_floors h.held) c.args.floor.owner c.args.place) (sym c.self.view_is) c.requires.place in
    (raised_with c.self.inside.held c.self.inside.marks c.self.inside.floor_marks.items c.self.invariant.0 c.self.invariant.1 c.args.floor
    c.args.place at c.args.mark c.args.self.now c.self.view_is
    c.raise_marked.result c.raise_marked.new.held c.raise_marked.new.marks c.raise_marked.new.floor_marks.items
    c.raise_marked.ensures.sound c.raise_marked.ensures.after c.raise_marked.ensures.list
    c.raise_marked.ensures.marks c.raise_marked.ensures.floor_marks c.raise_marked.ensures.same c.raise_marked.ensures.same_marks
    c.raise_marked.ensures.same_floor_marks).raised
