use Rattle.std.proofs.Common.{◌<◌, ◌≤◌, refl, ◌≡◌, length, ap, sym, subst, arith}
use Rattle.std.proofs.lemmas.List.Elements.{All-set}
use Rattle.std.specs.List.{slice_set}
use Rattle.std.proofs.lemmas.Option.{slice_get_read}
use Rattle.ds_replica.specs.declared.outcome.Outcome.TheVariants.{Refused, Cleared}
use Rattle.ds_replica.specs.declared.outcome.EventFault.TheVariants.{NoMap}
use Rattle.ds_submap.specs.Map.{SubMapRecord, IsMap}
use Rattle.ds_submap.proofs.MapLemmas.{empty_is_map}
use Rattle.ds_replica.specs.declared.event.Event.TheVariants.{ClearMap}
use Rattle.ds_world.specs.World.{WorldRecord, world_of}
use Rattle.ds_world.specs.Run.{EventLeads}
use Rattle.ds_world.proofs.MapLemmas.{no_map, map_cleared}
use Rattle.ds_world.proofs.world.World.clear_map.Goals as goal

pub returns-clause-leads : goal.returns-clause-leads
returns-clause-leads c =
    let a = c.self.inside.a in
    let b = c.self.inside.b in
    let maps = c.self.inside.maps.items in
    let messages = c.self.inside.messages.items in
    let event = ClearMap c.args.map in
    let many : c.len.result ≡ length maps = omega (arith, c.len.ensures, c.self.inside.maps.ok.0) in
    let there = slice_get_read maps c.len.result c.args.map c.index_mut.result.now many c.if-map-len.false c.index_mut.ensures.value in
    subst (λ (v : WorldRecord). EventLeads event Cleared v (world_of a b (slice_set maps c.args.map c.clear.new.self) messages))
    c.self.view_is
    (subst (λ (x : SubMapRecord). EventLeads event Cleared (world_of a b maps messages)
    (world_of a b (slice_set maps c.args.map x) messages)) (sym c.clear.ensures)
    (map_cleared (world_of a b maps messages) c.args.map c.index_mut.result.now there))

pub returns-clause-told : goal.returns-clause-told
returns-clause-told c = ap (λ (v : WorldRecord). v.messages) c.self.view_is

pub invariant_of-self : goal.invariant_of-self
invariant_of-self c =
    let empty = subst IsMap (sym c.clear.ensures) (empty_is_map c.index_mut.result.now.query) in
    (All-set IsMap c.self.inside.maps.items c.args.map c.clear.new.self empty c.self.invariant.0, c.self.invariant.1)

pub returns-then-map-len-clause-leads : goal.returns-then-map-len-clause-leads
returns-then-map-len-clause-leads c =
    let inside = c.self.inside in
    let value : WorldRecord = world_of inside.a inside.b inside.maps.items inside.messages.items in
    let past : length inside.maps.items ≤ c.args.map = omega (arith, c.if-map-len.true, c.len.ensures, inside.maps.ok.0) in
    subst (λ (v : WorldRecord). EventLeads (ClearMap c.args.map) (Refused NoMap) v v) c.self.view_is (no_map value c.args.map past)

pub returns-then-map-len-clause-told : goal.returns-then-map-len-clause-told
returns-then-map-len-clause-told c = refl

pub index_mut-requires : goal.index_mut-requires
index_mut-requires c = subst (λ n. c.args.map < n) c.len.ensures c.if-map-len.false
