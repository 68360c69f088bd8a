use Rattle.std.proofs.Common.{rules}
use Rattle.ds_packed.proofs.RowsLemmas.{rows_fit}
use Rattle.ds_packed.proofs.packed.Packed.with.Goals as goal

pub invariant_of-result : goal.invariant_of-result
invariant_of-result c =
    rows_fit c.self.inside.names.items c.self.inside.rows.items c.push.new.self.items c.in_ok-row.row c.args.item.now c.of.new.names.items
    c.self.invariant c.in_ok-row.ensures.row c.in_ok-row.ensures.item (search rules)
