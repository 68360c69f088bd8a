use Rattle.std.proofs.Common.{subst}
use Rattle.ds_submap.specs.Map.{SubMapRecord}
use Rattle.ds_submap.proofs.MapLemmas.{Took, take_leaves}
use Rattle.ds_submap.proofs.map.SubMap.take_slice.Goals as goal
use Rattle.ds_submap.proofs.map.SubMap.take_slice.Goals.{After-take_items}

left : (c : After-take_items) → Took c.self.inside.filter c.self.inside.held c.args.items.now c.take_items.new.held c.take_items.result
left c = take_leaves c.self.inside.filter c.self.inside.held c.args.items.now c.take_items.new.held c.take_items.result c.self.invariant
    c.take_items.ensures.sound c.take_items.ensures.counted c.take_items.ensures.stopped

pub invariant_of-self : goal.invariant_of-self
invariant_of-self c = (left c).map

-- The same, for the map as callers see it.
told : (c : After-take_items) → Took c.args.self.now.query c.args.self.now.held c.args.items.now c.take_items.new.held c.take_items.result
told c = subst (λ (m : SubMapRecord). Took m.query m.held c.args.items.now c.take_items.new.held c.take_items.result) c.self.view_is
    (left c)

pub returns-clause-joined : goal.returns-clause-joined
returns-clause-joined c = (told c).joined

pub returns-clause-floors : goal.returns-clause-floors
returns-clause-floors c = (told c).floors
