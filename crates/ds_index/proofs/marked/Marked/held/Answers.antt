use Rattle.std.proofs.Common.{subst}
use Rattle.ds_index.specs.Marked.{HasMarks}
use Rattle.ds_index.proofs.MarkLemmas.{marked_held}
use Rattle.ds_index.proofs.FloorMarkLemmas.{marked_owner}
use Rattle.ds_index.proofs.marked.Marked.held.Goals as goal

pub returns-clause-marked : goal.returns-clause-marked
returns-clause-marked g c =
    subst (λ h. HasMarks h) c.self.view_is (record {
      keys = λ key. marked_held c.self.inside.held c.self.inside.marks c.self.invariant.0 key;
      owners = λ owner. marked_owner c.self.inside.held c.self.inside.floor_marks.items c.self.invariant.1 owner;
    })
