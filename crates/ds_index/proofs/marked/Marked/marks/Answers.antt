use Rattle.std.proofs.Common.{subst}
use Rattle.ds_index.specs.Marked.{AreMarks}
use Rattle.ds_index.proofs.MarkLemmas.{own_mark}
use Rattle.ds_index.proofs.marked.Marked.marks.Goals as goal

pub returns : goal.returns
returns g c =
    subst (λ h. AreMarks h c.self.inside.marks) c.self.view_is (record {
      each = c.self.invariant.0.each;
      own = λ k x e. own_mark c.self.inside.held c.self.inside.marks c.self.invariant.0 k x e;
    })
