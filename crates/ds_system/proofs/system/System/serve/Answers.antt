use Rattle.std.proofs.Common.{◌≡◌, List, ◌++◌, sym, ap, subst, ◌∙◌}
use Rattle.ds_entry.specs.Change.{ChangeRecord}
use Rattle.ds_machine.specs.declared.reply.Reply.{Reply}
use Rattle.rs_core.specs.Run.{offers}
use Rattle.rs_core.proofs.SaysLemmas.{steps_say}
use Rattle.ds_system.specs.declared.event.SystemEvent.TheVariants as events
use Rattle.ds_system.specs.declared.outcome.SystemOutcome.TheVariants.{Acted, Refused}
use Rattle.ds_system.specs.declared.outcome.SystemFault.TheVariants as refusals
use Rattle.ds_system.specs.Stands.{SystemRecord, system_of, SystemEventLeads}
use Rattle.ds_system.proofs.ServeLemmas.{stands_fault, rs_refused, acted}
use Rattle.ds_system.proofs.system.System.serve.Goals as goal

pub pass_on-requires-clause-in_place : goal.pass_on-requires-clause-in_place
pass_on-requires-clause-in_place c = (steps_say c.self.inside.rs c.carry_out.new.self c.args.event c.args.tick c.in-Ok-carry_out.actions
    (c.in-Ok-carry_out.ensures.step c.args.event c.args.tick c.in-Ok.ensures.plan)).in_place

pub returns-in-Err : goal.returns-in-Err
returns-in-Err c =
    let i = c.self.inside in
    subst (λ (v : SystemRecord). SystemEventLeads (events.Service c.args.event c.args.tick c.args.side)
    (Refused (refusals.Service c.in-Err.fault)) v v) c.self.view_is
    (rs_refused (system_of i.rs i.numberers.items i.world i.file i.net i.made.items) c.args.event c.args.tick c.args.side c.in-Err.fault
    (stands_fault i.rs c.args.event c.args.tick c.in-Err.fault c.in-Err.ensures.refused))

pub returns-in-Ok-carry_out : goal.returns-in-Ok-carry_out
returns-in-Ok-carry_out c =
    let i = c.self.inside in
    let acts = c.in-Ok-carry_out.actions in
    let made : c.pass_on.new.made.items ≡ i.made.items ++ offers acts =
    c.pass_on.ensures.made ∙ ap (λ (l : List ChangeRecord). l ++ offers acts) c.room_for.ensures.made in
    subst
    (λ (r : List Reply).
    SystemEventLeads (events.Service c.args.event c.args.tick c.args.side) (Acted acts r) c.args.self.now
    (system_of c.carry_out.new.self i.numberers.items c.pass_on.new.world i.file i.net c.pass_on.new.made.items))
    (sym c.of.ensures)
    (subst
    (λ (l : List ChangeRecord).
    SystemEventLeads (events.Service c.args.event c.args.tick c.args.side) (Acted acts c.pass_on.new.replies.items) c.args.self.now
    (system_of c.carry_out.new.self i.numberers.items c.pass_on.new.world i.file i.net l))
    (sym made)
    (subst
    (λ (v : SystemRecord).
    SystemEventLeads (events.Service c.args.event c.args.tick c.args.side) (Acted acts c.pass_on.new.replies.items) v
    (system_of c.carry_out.new.self i.numberers.items c.pass_on.new.world i.file i.net (i.made.items ++ offers acts)))
    c.self.view_is
    (acted (system_of i.rs i.numberers.items i.world i.file i.net i.made.items) c.args.event c.args.tick c.args.side
    c.carry_out.new.self c.pass_on.new.world acts c.pass_on.new.replies.items
    (c.in-Ok-carry_out.ensures.step c.args.event c.args.tick c.in-Ok.ensures.plan) c.pass_on.ensures.asked)))
