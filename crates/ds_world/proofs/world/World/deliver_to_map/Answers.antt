use Rattle.std.proofs.lemmas.List.Elements.{All-set}
use Rattle.std.proofs.Common.{◌≡◌, List, ◌≤◌, ◌<◌, length, None, Some, sym, subst, arith, refl}
use Rattle.std.specs.List.{slice_get, slice_set}
use Rattle.std.proofs.lemmas.Option.{slice_get_read}
use Rattle.ds_submap.specs.Map.{IsMap}
use Rattle.ds_entry.specs.declared.item.Item.{Item}
use Rattle.ds_replica.specs.Delivery.{MapTakes}
use Rattle.ds_replica.specs.declared.event.Event.TheVariants.{Deliver}
use Rattle.ds_replica.specs.declared.event.Holder.TheVariants.{Map}
use Rattle.ds_replica.specs.declared.outcome.Outcome.{Outcome}
use Rattle.ds_machine.specs.declared.reply.Reply.{Reply}
use Rattle.ds_replica.specs.Lent.{items_lent}
use Rattle.ds_world.specs.World.{WorldRecord, world_of, map_state, kept_items}
use Rattle.ds_replica.specs.declared.outcome.Outcome.TheVariants.{Refused}
use Rattle.ds_replica.specs.declared.outcome.EventFault.TheVariants.{NoMessage, NoMap, TooMany}
use Rattle.ds_world.specs.Tally.{outcome_of, tally_of}
use Rattle.ds_world.specs.Run.{EventLeads}
use Rattle.ds_world.specs.Told.{IsMapTold, IsTold}
use Rattle.ds_world.proofs.DeliverLemmas.{map_refused, no_message, no_map, too_many_for_map, to_map, map_told, map_at}
use Rattle.ds_world.proofs.world.World.deliver_to_map.Goals as goal

pub returns-clause-leads : goal.returns-clause-leads
returns-clause-leads c =
    let k = c.args.message in
    let j = c.args.map in
    let count = c.args.count in
    let inside = c.self.inside in
    let value : WorldRecord = world_of inside.a inside.b inside.maps.items inside.messages.items in
    let items = items_lent c.in-Some.items in
    let there : kept_items value.messages k ≡ Some items =
    subst (λ (l : List Reply). kept_items l k ≡ Some items) c.deref.ensures.value c.in-Some.ensures.some in
    let old = c.index_mut.result.now in
    let within : j < length inside.maps.items = omega (arith, c.if-map-len.false, c.len.ensures, inside.maps.ok.0) in
    let map_there : slice_get value.maps j ≡ Some old =
    slice_get_read value.maps (length value.maps) j old refl within c.index_mut.ensures.value in
    let first = c.in-Some-first.ensures.some in
    let taken = subst (λ (l : List Item). MapTakes (map_state old) l (tally_of c.take_all.result) (map_state c.take_all.new.map)) first.0
    c.take_all.ensures.takes in
    let by_event = Deliver k (Map j) count in
    let new : WorldRecord = record value { maps = slice_set value.maps j c.take_all.new.map } in
    subst (λ (v : WorldRecord). EventLeads by_event c.outcome.result v new) c.self.view_is
    (subst (λ (o : Outcome). EventLeads by_event o value new) (sym c.outcome.ensures)
    (to_map value k count items there first.1 (tally_of c.take_all.result) j old c.take_all.new.map map_there taken))

pub returns-clause-told : goal.returns-clause-told
returns-clause-told c =
    let k = c.args.message in
    let j = c.args.map in
    let count = c.args.count in
    let inside = c.self.inside in
    let value : WorldRecord = world_of inside.a inside.b inside.maps.items inside.messages.items in
    let items = items_lent c.in-Some.items in
    let there : kept_items value.messages k ≡ Some items =
    subst (λ (l : List Reply). kept_items l k ≡ Some items) c.deref.ensures.value c.in-Some.ensures.some in
    let old = c.index_mut.result.now in
    let within : j < length inside.maps.items = omega (arith, c.if-map-len.false, c.len.ensures, inside.maps.ok.0) in
    let map_there : slice_get value.maps j ≡ Some old =
    slice_get_read value.maps (length value.maps) j old refl within c.index_mut.ensures.value in
    let taken = c.take_all.new.map in
    let tally = c.take_all.result in
    let told = subst (λ (l : List Item). IsMapTold old.query old.held l (outcome_of tally) taken.held) c.in-Some-first.ensures.some.0
    c.take_all.ensures.told in
    let new : WorldRecord = record value { maps = slice_set value.maps j taken } in
    subst (λ (v : WorldRecord). IsTold (Deliver k (Map j) count) c.outcome.result v new) c.self.view_is
    (subst (λ (o : Outcome). IsTold (Deliver k (Map j) count) o value new) (sym c.outcome.ensures)
    (map_told value k j count items old taken (outcome_of tally) there map_there told))

pub returns-in_default-clause-leads : goal.returns-in_default-clause-leads
returns-in_default-clause-leads c =
    let k = c.args.message in
    let inside = c.self.inside in
    let value : WorldRecord = world_of inside.a inside.b inside.maps.items inside.messages.items in
    let none : kept_items value.messages k ≡ None =
    subst (λ (l : List Reply). kept_items l k ≡ None) c.deref.ensures.value c.in_default.ensures.none in
    subst (λ (v : WorldRecord). EventLeads (Deliver k (Map c.args.map) c.args.count) (Refused NoMessage) v v) c.self.view_is
    (no_message value k c.args.count (Map c.args.map) none)

pub returns-then-map-len-clause-leads : goal.returns-then-map-len-clause-leads
returns-then-map-len-clause-leads c =
    let k = c.args.message in
    let j = c.args.map in
    let inside = c.self.inside in
    let value : WorldRecord = world_of inside.a inside.b inside.maps.items inside.messages.items in
    let items = items_lent c.in-Some.items in
    let there : kept_items value.messages k ≡ Some items =
    subst (λ (l : List Reply). kept_items l k ≡ Some items) c.deref.ensures.value c.in-Some.ensures.some in
    let past : length inside.maps.items ≤ j = omega (arith, c.if-map-len.true, c.len.ensures, inside.maps.ok.0) in
    subst (λ (v : WorldRecord). EventLeads (Deliver k (Map j) c.args.count) (Refused NoMap) v v) c.self.view_is
    (no_map value k c.args.count items there j past)

pub returns-in_default-first-clause-leads : goal.returns-in_default-first-clause-leads
returns-in_default-first-clause-leads c =
    let k = c.args.message in
    let j = c.args.map in
    let inside = c.self.inside in
    let value : WorldRecord = world_of inside.a inside.b inside.maps.items inside.messages.items in
    let items = items_lent c.in-Some.items in
    let there : kept_items value.messages k ≡ Some items =
    subst (λ (l : List Reply). kept_items l k ≡ Some items) c.deref.ensures.value c.in-Some.ensures.some in
    let within : j < length inside.maps.items = omega (arith, c.if-map-len.false, c.len.ensures, inside.maps.ok.0) in
    let at = map_at value.maps j within in
    subst (λ (v : WorldRecord). EventLeads (Deliver k (Map j) c.args.count) (Refused TooMany) v v) c.self.view_is
    (too_many_for_map value k c.args.count items there j at.0 at.1 c.in_default-first.ensures.few)

pub returns-in_default-clause-told : goal.returns-in_default-clause-told
returns-in_default-clause-told c = map_refused c.args.self.now c.args.message c.args.map c.args.count NoMessage

pub returns-then-map-len-clause-told : goal.returns-then-map-len-clause-told
returns-then-map-len-clause-told c = map_refused c.args.self.now c.args.message c.args.map c.args.count NoMap

pub returns-in_default-first-clause-told : goal.returns-in_default-first-clause-told
returns-in_default-first-clause-told c = map_refused c.args.self.now c.args.message c.args.map c.args.count TooMany

pub invariant_of-self : goal.invariant_of-self
invariant_of-self c =
    (All-set IsMap c.self.inside.maps.items c.args.map c.take_all.new.map c.take_all.ensures.map c.self.invariant.0, c.self.invariant.1)

pub index_mut-requires : goal.index_mut-requires
index_mut-requires c = subst (λ n. c.args.map < n) c.len.ensures c.if-map-len.false
