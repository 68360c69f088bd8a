use Rattle.ds_index.proofs.MarkLemmas.{beside_nothing}
use Rattle.ds_index.proofs.FloorMarkLemmas.{floor_beside_nothing, nothing_is}
use Rattle.ds_index.proofs.marked.Marked.bounded.Goals as goal

pub invariant_of-result : goal.invariant_of-result
invariant_of-result g c = (
  beside_nothing c.args.limits c.bounded.result c.new.result c.bounded.ensures c.new.ensures,
  floor_beside_nothing c.args.limits c.bounded.result c.bounded.ensures c.new-2.result.items c.new-2.ensures.items,
)

pub returns : goal.returns
returns g c = nothing_is c.args.limits c.bounded.result c.bounded.ensures c.new.result c.new-2.result.items c.new.ensures
    c.new-2.ensures.items
