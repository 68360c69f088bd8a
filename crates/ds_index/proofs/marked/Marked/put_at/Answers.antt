use Rattle.std.proofs.Common.{sym, subst}
use Rattle.ds_held.specs.Held.{held_changes}
use Rattle.ds_held.specs.Kept.{IsPlace}
use Rattle.ds_index.proofs.PutLemmas.{put_beside}
use Rattle.ds_index.proofs.marked.Marked.put_at.Goals as goal

pub returns-clause-put : goal.returns-clause-put
returns-clause-put g c =
    let at = subst (λ h. IsPlace (held_changes h.held) c.args.change.key c.args.place) (sym c.self.view_is) c.requires.place in
    (put_beside c.self.inside.held c.self.inside.marks c.self.inside.floor_marks.items c.self.invariant.0 c.self.invariant.1 c.args.change
    c.args.place at c.args.mark c.args.self.now c.self.view_is
    c.put_marked.result c.put_marked.new.held c.put_marked.new.marks c.put_marked.ensures.sound c.put_marked.ensures.after
    c.put_marked.ensures.list c.put_marked.ensures.marks
    c.put_marked.ensures.same c.put_marked.ensures.same_marks).put
