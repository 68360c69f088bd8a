use Rattle.std.proofs.Common.{sym, subst}
use Rattle.ds_replica.specs.declared.event.Event.{Event}
use Rattle.ds_world.specs.Run.{EventLeads}
use Rattle.ds_world.specs.Told.{IsTold}
use Rattle.ds_world.proofs.world.World.carry_out.Goals as goal

pub returns-in-Ask-clause-leads : goal.returns-in-Ask-clause-leads
returns-in-Ask-clause-leads c = rw c.in-Ask.is c.ask.ensures.leads

pub returns-in-NewMap-clause-leads : goal.returns-in-NewMap-clause-leads
returns-in-NewMap-clause-leads c = subst (λ (e : Event). EventLeads e c.make_map.result c.args.self.now c.make_map.new.self)
    (sym c.in-NewMap.is) c.make_map.ensures.leads

pub returns-in-NewMap-clause-told : goal.returns-in-NewMap-clause-told
returns-in-NewMap-clause-told c = subst (λ (e : Event). IsTold e c.make_map.result c.args.self.now c.make_map.new.self)
    (sym c.in-NewMap.is) c.make_map.ensures.told

pub returns-in-Deliver-clause-leads : goal.returns-in-Deliver-clause-leads
returns-in-Deliver-clause-leads c = subst (λ (e : Event). EventLeads e c.deliver.result c.args.self.now c.deliver.new.self)
    (sym c.in-Deliver.is) c.deliver.ensures.leads

pub returns-in-Deliver-clause-told : goal.returns-in-Deliver-clause-told
returns-in-Deliver-clause-told c = subst (λ (e : Event). IsTold e c.deliver.result c.args.self.now c.deliver.new.self)
    (sym c.in-Deliver.is) c.deliver.ensures.told

pub returns-in-ClearMap-clause-leads : goal.returns-in-ClearMap-clause-leads
returns-in-ClearMap-clause-leads c = subst (λ (e : Event). EventLeads e c.clear_map.result c.args.self.now c.clear_map.new.self)
    (sym c.in-ClearMap.is) c.clear_map.ensures.leads

pub returns-in-ClearMap-clause-told : goal.returns-in-ClearMap-clause-told
returns-in-ClearMap-clause-told c = subst (λ (e : Event). IsTold e c.clear_map.result c.args.self.now c.clear_map.new.self)
    (sym c.in-ClearMap.is) c.clear_map.ensures.told

pub returns-in-RestartStore-clause-leads : goal.returns-in-RestartStore-clause-leads
returns-in-RestartStore-clause-leads c = subst (λ (e : Event). EventLeads e c.restart.result c.args.self.now c.restart.new.self)
    (sym c.in-RestartStore.is) c.restart.ensures.leads

pub returns-in-RestartStore-clause-told : goal.returns-in-RestartStore-clause-told
returns-in-RestartStore-clause-told c = subst (λ (e : Event). IsTold e c.restart.result c.args.self.now c.restart.new.self)
    (sym c.in-RestartStore.is) c.restart.ensures.told

pub returns-in-Ask-clause-told : goal.returns-in-Ask-clause-told
returns-in-Ask-clause-told c = subst (λ (e : Event). IsTold e c.ask.result c.args.self.now c.ask.new.self) (sym c.in-Ask.is)
    c.ask.ensures.told
