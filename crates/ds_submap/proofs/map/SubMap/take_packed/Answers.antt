use Rattle.std.proofs.Common.{subst}
use Rattle.ds_submap.specs.Map.{SubMapRecord}
use Rattle.ds_submap.proofs.MapLemmas.{Took, take_leaves}
use Rattle.ds_submap.proofs.map.SubMap.take_packed.Goals as goal
use Rattle.ds_submap.proofs.map.SubMap.take_packed.Goals.{After-take_packed}

left : (c : After-take_packed) → Took c.self.inside.filter c.self.inside.held c.args.items c.take_packed.new.held c.take_packed.result
left c = take_leaves c.self.inside.filter c.self.inside.held c.args.items c.take_packed.new.held c.take_packed.result c.self.invariant
    c.take_packed.ensures.sound c.take_packed.ensures.counted c.take_packed.ensures.stopped

pub invariant_of-self : goal.invariant_of-self
invariant_of-self c = (left c).map

-- The same, for the map as callers see it.
told : (c : After-take_packed) → Took c.args.self.now.query c.args.self.now.held c.args.items c.take_packed.new.held c.take_packed.result
told c = subst (λ (m : SubMapRecord). Took m.query m.held c.args.items c.take_packed.new.held c.take_packed.result) c.self.view_is (left c)

pub returns-clause-joined : goal.returns-clause-joined
returns-clause-joined c = (told c).joined

pub returns-clause-floors : goal.returns-clause-floors
returns-clause-floors c = (told c).floors
