use Rattle.std.proofs.Common.{◌≡◌, ◌<◌, ◌++◌, ◌∷◌, [], List, length, sym, ap, ◌∙◌, subst, arith, All}
use Rattle.std.proofs.lemmas.List.Elements.{All-push}
use Rattle.ds_pattern.specs.Patterns.{IsPattern}
use Rattle.ds_submap.specs.Map.{SubMapRecord, IsMap}
use Rattle.ds_submap.proofs.MapLemmas.{empty_is_map}
use Rattle.ds_replica.specs.declared.event.Event.TheVariants.{NewMap}
use Rattle.ds_replica.specs.declared.outcome.Outcome.{Outcome}
use Rattle.ds_replica.specs.declared.outcome.Outcome.TheVariants.{MapMade, Refused}
use Rattle.ds_replica.specs.declared.outcome.EventFault.TheVariants.{NoRoom}
use Rattle.ds_world.specs.World.{WorldRecord, world_of}
use Rattle.ds_world.specs.Run.{EventLeads}
use Rattle.ds_world.proofs.MapLemmas.{map_made, map_noroom}
use Rattle.ds_world.proofs.world.World.make_map.Goals.{in-Ok-push, in-Err-push}
use Rattle.ds_world.proofs.world.World.make_map.Goals as goal

pub returns-clause-leads : goal.returns-clause-leads
returns-clause-leads c =
    let a = c.self.inside.a in
    let b = c.self.inside.b in
    let maps = c.self.inside.maps.items in
    let messages = c.self.inside.messages.items in
    let query = c.args.query.now in
    let many : length maps ≡ c.len-number.result = omega (arith, c.len-number.ensures, c.self.inside.maps.ok.0) in
    let few : length maps < 64 = omega (arith, many, c.if-number-ge-MOST_MAPS.false) in
    let value = world_of a b maps messages in
    let pattern : IsPattern query.text = subst (λ (m : SubMapRecord). IsPattern m.query.text) c.in-Ok.ensures.value
    c.in-Ok.ensures.pattern in
    elim c.match-push.branch [
      | in-Ok-push w ↦
          let pushed : c.push.new.self.items ≡ maps ++ c.in-Ok.map ∷ [] = rw w.in-Ok-push.is at c.push.ensures.items in
          subst (λ (o : Outcome). EventLeads (NewMap query) o c.args.self.now (world_of a b c.push.new.self.items messages))
          (ap MapMade many ∙ sym w.result-is)
          (subst (λ (l : List SubMapRecord). EventLeads (NewMap query) (MapMade (length maps)) c.args.self.now (world_of a b l messages))
          (sym pushed)
          (subst (λ (v : WorldRecord). EventLeads (NewMap query) (MapMade (length maps)) v
          (world_of a b (maps ++ c.in-Ok.map ∷ []) messages)) c.self.view_is
          (map_made value query c.in-Ok.map few c.in-Ok.ensures.value pattern)))
      | in-Err-push w ↦
          let same : c.push.new.self.items ≡ maps = rw w.in-Err-push.is at c.push.ensures.items in
          subst (λ (o : Outcome). EventLeads (NewMap query) o c.args.self.now (world_of a b c.push.new.self.items messages))
          (sym w.result-is)
          (subst (λ (l : List SubMapRecord). EventLeads (NewMap query) (Refused NoRoom) c.args.self.now (world_of a b l messages))
          (sym same)
          (subst (λ (v : WorldRecord). EventLeads (NewMap query) (Refused NoRoom) v value) c.self.view_is
          (map_noroom value query few pattern.limit)))
    ]

pub returns-clause-told : goal.returns-clause-told
returns-clause-told c = ap (λ (v : WorldRecord). v.messages) c.self.view_is

pub invariant_of-self : goal.invariant_of-self
invariant_of-self c =
    let maps = c.self.inside.maps.items in
    let made : IsMap c.in-Ok.map = subst IsMap (sym c.in-Ok.ensures.value) (empty_is_map c.args.query.now) in
    elim c.match-push.branch [
      | in-Ok-push w ↦
          let pushed : c.push.new.self.items ≡ maps ++ c.in-Ok.map ∷ [] = rw w.in-Ok-push.is at c.push.ensures.items in
          (subst (All IsMap) (sym pushed) (All-push IsMap maps c.in-Ok.map c.self.invariant.0 made), c.self.invariant.1)
      | in-Err-push w ↦
          let same : c.push.new.self.items ≡ maps = rw w.in-Err-push.is at c.push.ensures.items in
          (subst (All IsMap) (sym same) c.self.invariant.0, c.self.invariant.1)
    ]
