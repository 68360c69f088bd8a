use Rattle.std.proofs.Common.{◌≡◌, Some, refl, sym, ◌∙◌, ap, subst}
use Rattle.ds_machine.specs.Stopped.{refusal_of_join}
use Rattle.ds_machine.specs.declared.refusal.Refusal.{Refusal}
use Rattle.ds_replica.specs.Delivery.{Tally, ended, MapTakes}
use Rattle.ds_replica.specs.Lent.{items_lent}
use Rattle.ds_world.specs.World.{map_state}
use Rattle.ds_replica.specs.Happens.{tally_outcome}
use Rattle.ds_world.specs.Tally.{tally_of}
use Rattle.ds_world.specs.Told.{IsMapTold}
use Rattle.ds_world.proofs.TakeLemmas.{took, stopped}
use Rattle.ds_world.proofs.world.delivering.take_all.Goals as goal

pub returns-in-Ok-clause-takes : goal.returns-in-Ok-clause-takes
returns-in-Ok-clause-takes c = took c.args.map.now c.take-taken.new.map (items_lent c.args.items) c.take-taken.ensures.query c.in-Ok.count
    c.in-Ok.ensures.joined c.in-Ok.ensures.counted

pub returns-in-Err-clause-takes : goal.returns-in-Err-clause-takes
returns-in-Err-clause-takes c =
    let old = map_state c.args.map.now in
    let new = map_state c.take-taken.new.map in
    let taken = stopped c.args.map.now c.take-taken.new.map (items_lent c.args.items) c.take-taken.ensures.query c.map_proof.ensures.sound
    c.in-Err.stop c.in-Err.ensures.joined c.in-Err.ensures.stopped in
    let is : tally_of c.ended.result ≡ ended c.in-Err.stop.done 0 (Some (refusal_of_join c.in-Err.stop.fault)) =
    c.ended.ensures ∙ ap (λ (r : Refusal). ended c.in-Err.stop.done 0 (Some r)) c.of_join.ensures in
    subst (λ (t : Tally). MapTakes old (items_lent c.args.items) t new) (sym is) taken

pub returns-in-Err-clause-told : goal.returns-in-Err-clause-told
returns-in-Err-clause-told c =
    let old = c.args.map.now in
    let new = c.take-taken.new.map in
    let is : tally_of c.ended.result ≡ ended c.in-Err.stop.done 0 (Some (refusal_of_join c.in-Err.stop.fault)) =
    c.ended.ensures ∙ ap (λ (r : Refusal). ended c.in-Err.stop.done 0 (Some r)) c.of_join.ensures in
    subst (λ (t : Tally). IsMapTold old.query old.held (items_lent c.args.items) (tally_outcome t t.stop) new.held) (sym is)
    (c.in-Err.stop.fault, refl, c.in-Err.ensures.stopped)
