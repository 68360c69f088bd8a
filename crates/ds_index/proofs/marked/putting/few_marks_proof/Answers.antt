use Rattle.std.proofs.Common.{◌≤◌, subst}
use Rattle.ds_index.proofs.MarkLemmas.{few_marks}
use Rattle.ds_index.proofs.marked.putting.few_marks_proof.Goals as goal

pub returns : goal.returns
returns g c =
    few_marks c.args.held.now c.args.marks.now c.requires
    (subst (λ n. n ≤ c.args.held.now.limits.keys) c.len-len.ensures.count c.len-len.ensures.few) c.limits.result c.limits.ensures
    c.keys-most.ensures.limits
