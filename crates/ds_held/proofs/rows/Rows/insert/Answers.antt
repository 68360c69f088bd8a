use Rattle.std.proofs.Common.{◌<◌, ◌≤◌, subst, sym}
use Rattle.ds_held.proofs.RowLemmas.{length_is}
use Rattle.ds_held.proofs.rows.Rows.insert.Goals as goal

pub insert_in-requires-clause-within : goal.insert_in-requires-clause-within
insert_in-requires-clause-within g c =
    subst (λ n. c.args.index ≤ n) (sym (length_is c.self.inside.order.items c.self.inside.slots.items c.args.self.now
    c.self.invariant.filled c.self.view_is)) c.requires.within

pub insert_in-requires-clause-few : goal.insert_in-requires-clause-few
insert_in-requires-clause-few g c =
    subst (λ n. n < 65536) (sym (length_is c.self.inside.order.items c.self.inside.slots.items c.args.self.now c.self.invariant.filled
    c.self.view_is)) c.requires.few
