use Rattle.std.proofs.Common.{◌<◌, subst, sym}
use Rattle.ds_held.proofs.RowLemmas.{length_is}
use Rattle.ds_held.proofs.rows.Rows.remove.Goals as goal

pub remove_in-requires-clause-within : goal.remove_in-requires-clause-within
remove_in-requires-clause-within g c =
    subst (λ n. c.args.index < n) (sym (length_is c.self.inside.order.items c.self.inside.slots.items c.args.self.now
    c.self.invariant.filled c.self.view_is)) c.requires
