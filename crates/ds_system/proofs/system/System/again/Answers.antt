use Rattle.std.proofs.Common.{◌≡◌, [], ◌∷◌, Some, sym, subst}
use Rattle.std.specs.List.{slice_get}
use Rattle.std.specs.Option.{option_copied}
use Rattle.ds_entry.specs.declared.item.Item.{Item}
use Rattle.ds_entry.specs.declared.item.Item.TheVariants.{Change as Changed}
use Rattle.ds_machine.specs.declared.command.Command.TheVariants.{Merge}
use Rattle.ds_replica.specs.declared.event.Event.TheVariants.{Ask}
use Rattle.ds_replica.specs.declared.outcome.Outcome.TheVariants as results
use Rattle.ds_world.specs.Run.{EventLeads}
use Rattle.ds_world.specs.Told.{IsTold}
use Rattle.ds_system.specs.declared.event.SystemEvent.TheVariants as events
use Rattle.ds_system.specs.declared.outcome.SystemOutcome.TheVariants.{Replied}
use Rattle.ds_system.specs.Stands.{SystemRecord, system_of, SystemEventLeads}
use Rattle.ds_system.proofs.AskLemmas.{no_change, no_room_again, repeated}
use Rattle.ds_system.proofs.system.System.again.Goals as goal

pub returns-in_default : goal.returns-in_default
returns-in_default c =
    let v = c.args.self.now in
    no_change v c.args.change c.args.side (sym
    (subst (λ o. option_copied o ≡ slice_get v.made c.args.change) c.in_default.is c.made_at.ensures))

pub returns-in_default-item_of : goal.returns-in_default-item_of
returns-in_default-item_of c =
    let v = c.args.self.now in
    no_room_again v c.args.change c.args.side c.in-Some.made.now
    (sym (subst (λ o. option_copied o ≡ slice_get v.made c.args.change) c.in-Some.is c.made_at.ensures)) c.in_default-item_of.ensures.room

pub returns : goal.returns
returns c =
    let i = c.self.inside in
    let x = c.in-Some.made.now in
    let at : slice_get i.made.items c.args.change ≡ Some x =
    subst (λ (v : SystemRecord). slice_get v.made c.args.change ≡ Some x) (sym c.self.view_is)
    (sym (subst (λ o. option_copied o ≡ slice_get c.args.self.now.made c.args.change) c.in-Some.is c.made_at.ensures)) in
    let went = c.fast_offer-reply in
    let leads : EventLeads (Ask c.args.side (Merge (Changed x ∷ []))) (results.Replied went.result) i.world went.new.self =
    subst (λ (y : Item). EventLeads (Ask c.args.side (Merge (y ∷ []))) (results.Replied went.result) i.world went.new.self)
    c.in-Ok.ensures.item went.ensures.leads in
    let told : IsTold (Ask c.args.side (Merge (Changed x ∷ []))) (results.Replied went.result) i.world went.new.self =
    subst (λ (y : Item). IsTold (Ask c.args.side (Merge (y ∷ []))) (results.Replied went.result) i.world went.new.self)
    c.in-Ok.ensures.item went.ensures.told in
    subst (λ (v : SystemRecord). SystemEventLeads (events.Again c.args.change c.args.side) (Replied went.result) v
    (system_of i.rs i.numberers.items went.new.self i.file i.net i.made.items)) c.self.view_is
    (repeated (system_of i.rs i.numberers.items i.world i.file i.net i.made.items) c.args.change c.args.side x went.result went.new.self at
    c.in-Ok.ensures.change leads told)
