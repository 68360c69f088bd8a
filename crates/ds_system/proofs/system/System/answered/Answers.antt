use Rattle.std.proofs.Common.{◌≡◌, ◌∙◌, List, [], sym, ap, subst}
use Rattle.driver_tables.specs.declared.moves.Move.{Move}
use Rattle.ds_system.specs.declared.event.Table.{Table}
use Rattle.ds_system.specs.declared.event.Table.TheVariants.{File, Net}
use Rattle.ds_system.specs.declared.event.SystemEvent.TheVariants as events
use Rattle.ds_system.specs.declared.outcome.SystemOutcome.{SystemOutcome}
use Rattle.ds_system.specs.Stands.{SystemRecord, system_of, SystemEventLeads}
use Rattle.ds_system.specs.Turns.{moved_so}
use Rattle.ds_system.proofs.TurnLemmas.{reply_leads}
use Rattle.ds_system.proofs.system.System.answered.Goals as goal

pub returns-in-File : goal.returns-in-File
returns-in-File c =
    let i = c.self.inside in
    let went = c.replies-answer in
    let after : SystemRecord = system_of i.rs i.numberers.items i.world went.new.table i.net i.made.items in
    let out : c.moved.result ≡ moved_so [] went.result =
    c.moved.ensures ∙ ap (λ (l : List (List Move)). moved_so l went.result) c.new.ensures in
    subst (λ (t : Table). SystemEventLeads (events.Answered t c.args.endpoint c.args.id) c.moved.result c.args.self.now after)
    (sym c.in-File.is)
    (subst (λ (o : SystemOutcome). SystemEventLeads (events.Answered File c.args.endpoint c.args.id) o c.args.self.now after) (sym out)
    (subst (λ (v : SystemRecord). SystemEventLeads (events.Answered File c.args.endpoint c.args.id) (moved_so [] went.result) v after)
    c.self.view_is
    (reply_leads (system_of i.rs i.numberers.items i.world i.file i.net i.made.items) File c.args.endpoint c.args.id went.new.table
    went.result went.ensures)))

pub returns-in-Net : goal.returns-in-Net
returns-in-Net c =
    let i = c.self.inside in
    let went = c.replies-answer-in-Net in
    let after : SystemRecord = system_of i.rs i.numberers.items i.world i.file went.new.table i.made.items in
    let out : c.moved-in-Net.result ≡ moved_so [] went.result =
    c.moved-in-Net.ensures ∙ ap (λ (l : List (List Move)). moved_so l went.result) c.new-in-Net.ensures in
    subst (λ (t : Table). SystemEventLeads (events.Answered t c.args.endpoint c.args.id) c.moved-in-Net.result c.args.self.now after)
    (sym c.in-Net.is)
    (subst (λ (o : SystemOutcome). SystemEventLeads (events.Answered Net c.args.endpoint c.args.id) o c.args.self.now after) (sym out)
    (subst (λ (v : SystemRecord). SystemEventLeads (events.Answered Net c.args.endpoint c.args.id) (moved_so [] went.result) v after)
    c.self.view_is
    (reply_leads (system_of i.rs i.numberers.items i.world i.file i.net i.made.items) Net c.args.endpoint c.args.id went.new.table
    went.result went.ensures)))
