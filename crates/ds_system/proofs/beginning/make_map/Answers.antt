use Rattle.std.proofs.Common.{subst}
use Rattle.ds_pattern.specs.declared.query.Query.{Query}
use Rattle.ds_replica.specs.declared.event.Event.TheVariants.{NewMap}
use Rattle.ds_replica.specs.declared.outcome.Outcome.{Outcome}
use Rattle.ds_replica.specs.declared.outcome.Outcome.TheVariants.{MapMade}
use Rattle.ds_world.specs.Run.{EventLeads}
use Rattle.ds_system.proofs.beginning.make_map.Goals as goal

pub returns : goal.returns
returns c =
    let a = c.args.world.now in
    let b = c.happen.new.self in
    let leads = subst (λ (o : Outcome). EventLeads (NewMap c.in_ok-query.query) o a b) c.in-MapMade.is c.happen.ensures.leads in
    (c.in-MapMade.map, subst (λ (q : Query). EventLeads (NewMap q) (MapMade c.in-MapMade.map) a b) c.in_ok-query.ensures leads)
