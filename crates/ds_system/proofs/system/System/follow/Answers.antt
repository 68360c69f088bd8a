use Rattle.std.proofs.Common.{List, None, sym, subst}
use Rattle.driver_tables.specs.declared.moves.Move.{Move}
use Rattle.ds_system.specs.declared.event.SystemEvent.TheVariants as events
use Rattle.ds_system.specs.declared.outcome.SystemOutcome.TheVariants.{Moved}
use Rattle.ds_system.specs.Stands.{SystemRecord, system_of, SystemEventLeads}
use Rattle.ds_system.proofs.TurnLemmas.{both_lead}
use Rattle.ds_system.proofs.system.System.follow.Goals as goal

pub returns : goal.returns
returns c =
    let i = c.self.inside in
    let went = c.servers_follow-fault in
    let after : SystemRecord = system_of i.rs i.numberers.items i.world went.new.file went.new.net i.made.items in
    subst (λ (l : List (List Move)). SystemEventLeads events.Follow (Moved l None went.result) c.args.self.now after) (sym c.of.ensures)
    (subst (λ (v : SystemRecord). SystemEventLeads events.Follow (Moved went.new.rounds.items None went.result) v after) c.self.view_is
    (both_lead (system_of i.rs i.numberers.items i.world i.file i.net i.made.items) went.new.file went.new.net went.new.rounds.items
    went.result went.ensures))
