use Rattle.std.proofs.Common.{◌<◌, ◌∙◌, ap, length, subst, sym}
use Rattle.ds_held.proofs.RowLemmas.{length_is}
use Rattle.ds_held.proofs.rows.Rows.set.Goals as goal

pub set_in-requires-clause-within : goal.set_in-requires-clause-within
set_in-requires-clause-within g c =
    subst (λ n. c.args.index < n)
    (sym (ap length c.deref.ensures.value ∙ length_is c.self.inside.order.items c.self.inside.slots.items c.args.self.now
    c.self.invariant.filled c.self.view_is)) c.requires
