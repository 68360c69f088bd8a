use Rattle.std.proofs.Common.{◌∙◌}
use Rattle.ds_held.proofs.RowLemmas.{length_is}
use Rattle.ds_held.proofs.rows.Rows.len.Goals as goal

pub returns : goal.returns
returns g c = c.len.ensures ∙ c.self.inside.order.ok.0 ∙
    length_is c.self.inside.order.items c.self.inside.slots.items c.args.self.now c.self.invariant.filled c.self.view_is
