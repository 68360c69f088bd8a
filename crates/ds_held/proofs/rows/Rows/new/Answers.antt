use Rattle.std.specs.Prelude.{vec_capacity}
use Rattle.ds_held.proofs.RowLemmas.{rows_nothing}
use Rattle.ds_held.proofs.rows.Rows.new.Goals as goal

pub invariant_of-result : goal.invariant_of-result
invariant_of-result g c =
    rows_nothing c.new.result.items c.new-2.result.items c.new-3.result.items (vec_capacity c.new-2.result) c.new.ensures.items
    c.new-2.ensures.items c.new-3.ensures.items
