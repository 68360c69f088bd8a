use Rattle.std.proofs.Common.{sym, subst}
use Rattle.ds_replica.specs.declared.event.Holder.{Holder}
use Rattle.ds_replica.specs.declared.event.Event.TheVariants.{Deliver}
use Rattle.ds_world.specs.Run.{EventLeads}
use Rattle.ds_world.specs.Told.{IsTold}
use Rattle.ds_world.proofs.world.World.deliver.Goals as goal

pub returns-in-Store-clause-leads : goal.returns-in-Store-clause-leads
returns-in-Store-clause-leads c =
    subst (λ (h : Holder). EventLeads (Deliver c.args.message h c.args.count) c.deliver_to_store.result c.args.self.now
    c.deliver_to_store.new.self) (sym c.in-Store.is) c.deliver_to_store.ensures.leads

pub returns-in-Store-clause-told : goal.returns-in-Store-clause-told
returns-in-Store-clause-told c =
    subst (λ (h : Holder). IsTold (Deliver c.args.message h c.args.count) c.deliver_to_store.result c.args.self.now
    c.deliver_to_store.new.self) (sym c.in-Store.is) c.deliver_to_store.ensures.told

pub returns-in-Map-clause-leads : goal.returns-in-Map-clause-leads
returns-in-Map-clause-leads c =
    subst (λ (h : Holder). EventLeads (Deliver c.args.message h c.args.count) c.deliver_to_map.result c.args.self.now
    c.deliver_to_map.new.self) (sym c.in-Map.is) c.deliver_to_map.ensures.leads

pub returns-in-Map-clause-told : goal.returns-in-Map-clause-told
returns-in-Map-clause-told c =
    subst (λ (h : Holder). IsTold (Deliver c.args.message h c.args.count) c.deliver_to_map.result c.args.self.now
    c.deliver_to_map.new.self) (sym c.in-Map.is) c.deliver_to_map.ensures.told
