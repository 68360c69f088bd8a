use Rattle.std.proofs.Common.{◌≡◌, List, ◌≤◌, length, None, Some, refl, ap, sym, ◌∙◌, subst}
use Rattle.ds_entry.specs.declared.item.Item.{Item}
use Rattle.ds_replica.specs.Happens.{count_of}
use Rattle.ds_replica.specs.declared.event.Side.{Side}
use Rattle.ds_replica.specs.declared.event.Side.TheVariants.{A, B}
use Rattle.ds_replica.specs.declared.event.Event.TheVariants.{Deliver}
use Rattle.ds_replica.specs.declared.event.Holder.TheVariants.{Store}
use Rattle.ds_machine.specs.declared.reply.Reply.{Reply}
use Rattle.ds_replica.specs.Lent.{items_lent}
use Rattle.ds_world.specs.World.{WorldRecord, world_of, kept_items}
use Rattle.ds_replica.specs.declared.outcome.Outcome.TheVariants.{Refused}
use Rattle.ds_replica.specs.declared.outcome.EventFault.TheVariants.{NoMessage, TooMany}
use Rattle.ds_world.specs.Run.{EventLeads}
use Rattle.ds_world.specs.Tally.{outcome_of, tally_of}
use Rattle.ds_world.specs.Steps.{ItemsAreTaken}
use Rattle.ds_world.proofs.DeliverLemmas.{store_refused, carried, told_so, led, store_told, no_message, too_many_for_store, to_a, to_b}
use Rattle.ds_world.proofs.world.World.deliver_to_store.Goals.{in-A, in-B}
use Rattle.ds_world.proofs.world.World.deliver_to_store.Goals as goal

pub returns-clause-leads : goal.returns-clause-leads
returns-clause-leads c =
    let k = c.args.message in
    let count = c.args.count in
    let inside = c.self.inside in
    let value : WorldRecord = world_of inside.a inside.b inside.maps.items inside.messages.items in
    let items = items_lent c.in-Some.items in
    let there : kept_items value.messages k ≡ Some items =
    subst (λ (l : List Reply). kept_items l k ≡ Some items) c.deref.ensures.value c.in-Some.ensures.some in
    let first = c.in-Some-first.ensures.some.0 in
    let few : count_of count items ≤ length items = c.in-Some-first.ensures.some.1 in
    let by_event = λ (side : Side). Deliver k (Store side) count in
    elim c.match-side.branch [
      | in-A w ↦
          (let tally = w.merge_all-tally.result in
          let new = w.merge_all-tally.new.store in
          let taken = subst (λ (l : List Item). ItemsAreTaken value.a l (tally_of tally) new) first w.merge_all-tally.ensures in
          let to = to_a value k count items there few (tally_of tally) new taken in
          carried (ap by_event (sym w.in-A.is)) (sym (c.outcome.ensures ∙ ap outcome_of w.tally-is)) c.self.view_is (sym w.self-is)
          (led value k count items there few (tally_of tally) A (record value { a = new }) to))
      | in-B w ↦
          (let tally = w.merge_all-tally-in-B.result in
          let new = w.merge_all-tally-in-B.new.store in
          let taken = subst (λ (l : List Item). ItemsAreTaken value.b l (tally_of tally) new) first w.merge_all-tally-in-B.ensures in
          let to = to_b value k count items there few (tally_of tally) new taken in
          carried (ap by_event (sym w.in-B.is)) (sym (c.outcome.ensures ∙ ap outcome_of w.tally-is)) c.self.view_is (sym w.self-is)
          (led value k count items there few (tally_of tally) B (record value { b = new }) to))
    ]

pub returns-clause-told : goal.returns-clause-told
returns-clause-told c =
    let k = c.args.message in
    let count = c.args.count in
    let inside = c.self.inside in
    let value : WorldRecord = world_of inside.a inside.b inside.maps.items inside.messages.items in
    let items = items_lent c.in-Some.items in
    let there : kept_items value.messages k ≡ Some items =
    subst (λ (l : List Reply). kept_items l k ≡ Some items) c.deref.ensures.value c.in-Some.ensures.some in
    let first = c.in-Some-first.ensures.some.0 in
    let few : count_of count items ≤ length items = c.in-Some-first.ensures.some.1 in
    let by_event = λ (side : Side). Deliver k (Store side) count in
    elim c.match-side.branch [
      | in-A w ↦
          (let tally = w.merge_all-tally.result in
          let new = w.merge_all-tally.new.store in
          let taken = subst (λ (l : List Item). ItemsAreTaken value.a l (tally_of tally) new) first w.merge_all-tally.ensures in
          let to = to_a value k count items there few (tally_of tally) new taken in
          told_so (ap by_event (sym w.in-A.is)) (sym (c.outcome.ensures ∙ ap outcome_of w.tally-is)) c.self.view_is (sym w.self-is)
          (store_told value k count items there few (tally_of tally) A (record value { a = new }) to refl))
      | in-B w ↦
          (let tally = w.merge_all-tally-in-B.result in
          let new = w.merge_all-tally-in-B.new.store in
          let taken = subst (λ (l : List Item). ItemsAreTaken value.b l (tally_of tally) new) first w.merge_all-tally-in-B.ensures in
          let to = to_b value k count items there few (tally_of tally) new taken in
          told_so (ap by_event (sym w.in-B.is)) (sym (c.outcome.ensures ∙ ap outcome_of w.tally-is)) c.self.view_is (sym w.self-is)
          (store_told value k count items there few (tally_of tally) B (record value { b = new }) to refl))
    ]

pub returns-in_default-clause-leads : goal.returns-in_default-clause-leads
returns-in_default-clause-leads c =
    let k = c.args.message in
    let inside = c.self.inside in
    let value : WorldRecord = world_of inside.a inside.b inside.maps.items inside.messages.items in
    let none : kept_items value.messages k ≡ None =
    subst (λ (l : List Reply). kept_items l k ≡ None) c.deref.ensures.value c.in_default.ensures.none in
    subst (λ (v : WorldRecord). EventLeads (Deliver k (Store c.args.side) c.args.count) (Refused NoMessage) v v) c.self.view_is
    (no_message value k c.args.count (Store c.args.side) none)

pub returns-in_default-first-clause-leads : goal.returns-in_default-first-clause-leads
returns-in_default-first-clause-leads c =
    let k = c.args.message in
    let inside = c.self.inside in
    let value : WorldRecord = world_of inside.a inside.b inside.maps.items inside.messages.items in
    let items = items_lent c.in-Some.items in
    let there : kept_items value.messages k ≡ Some items =
    subst (λ (l : List Reply). kept_items l k ≡ Some items) c.deref.ensures.value c.in-Some.ensures.some in
    subst (λ (v : WorldRecord). EventLeads (Deliver k (Store c.args.side) c.args.count) (Refused TooMany) v v) c.self.view_is
    (too_many_for_store value k c.args.count items there c.args.side c.in_default-first.ensures.few)

pub returns-in_default-clause-told : goal.returns-in_default-clause-told
returns-in_default-clause-told c = store_refused c.args.self.now c.args.message c.args.side c.args.count NoMessage

pub returns-in_default-first-clause-told : goal.returns-in_default-first-clause-told
returns-in_default-first-clause-told c = store_refused c.args.self.now c.args.message c.args.side c.args.count TooMany

pub invariant_of-self : goal.invariant_of-self
invariant_of-self c = c.self.invariant
