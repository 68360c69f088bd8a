use Rattle.std.proofs.Common.{◌∙◌, sym, subst}
use Rattle.ds_system.specs.declared.event.SystemEvent.TheVariants as events
use Rattle.ds_system.specs.declared.outcome.SystemOutcome.TheVariants.{Happened}
use Rattle.ds_system.specs.Stands.{SystemRecord, system_of, SystemEventLeads}
use Rattle.ds_system.proofs.AskLemmas.{barred, passed}
use Rattle.ds_system.proofs.system.System.pass.Goals as goal

pub returns-then-is_barred : goal.returns-then-is_barred
returns-then-is_barred c = barred c.args.self.now c.args.event (sym c.is_barred.ensures ∙ c.if-is_barred.true)

pub returns : goal.returns
returns c =
    let i = c.self.inside in
    subst (λ (v : SystemRecord). SystemEventLeads (events.World c.args.event) (Happened c.happen.result) v
    (system_of i.rs i.numberers.items c.happen.new.self i.file i.net i.made.items)) c.self.view_is
    (passed (system_of i.rs i.numberers.items i.world i.file i.net i.made.items) c.args.event c.happen.result c.happen.new.self
    (sym c.is_barred.ensures ∙ c.if-is_barred.false) c.happen.ensures.leads c.happen.ensures.told)
