use Rattle.std.specs.Prelude.{vec_capacity}
use Rattle.ds_held.proofs.RowLemmas.{rows_nothing}
use Rattle.ds_held.proofs.rows.Rows.clear.Goals as goal

pub invariant_of-self : goal.invariant_of-self
invariant_of-self g c =
    rows_nothing c.clear.new.self.items c.clear-2.new.self.items c.clear-3.new.self.items (vec_capacity c.clear-2.new.self)
    c.clear.ensures.items c.clear-2.ensures.items c.clear-3.ensures.items
