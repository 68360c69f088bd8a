use Rattle.std.proofs.Common.{◌≢◌, ◌<◌, [], map, length, cond, ap, sym, ◌∙◌, arith}
use Rattle.std.proofs.lemmas.Option.{slice_get_within}
use Rattle.ds_held.specs.Held.{held_floors}
use Rattle.ds_held.specs.Kept.{floored}
use Rattle.ds_content.proofs.OpenLemmas.{on_err}
use Rattle.ds_content.proofs.PagingLemmas.{floors_more, floors_all, mapped_some}
use Rattle.ds_content.proofs.content.paging.first_floors.Goals as goal

pub loop-floor-preserved : goal.loop-floor-preserved
loop-floor-preserved c =
    let fs = held_floors c.args.held.now in
    let within : c.loop-floor.index < length fs = slice_get_within fs c.loop-floor.index c.in-Some.floor (sym c.in-Some.ensures) in
    record {
      copied = floors_more fs c.loop-floor.index c.in-Some.floor c.loop-floor.items c.push.new.self c.loop-floor.invariant.copied
          (sym c.in-Some.ensures) c.in_ok-push.ensures.ok;
      within = omega (arith, within);
    }

pub returns-clause-value : goal.returns-clause-value
returns-clause-value c =
    floors_all (held_floors c.args.held.now) c.loop-floor.index c.loop-floor.items c.loop-floor.invariant.copied (sym c.in_default.ensures)
    ∙ sym (ap (λ b. cond b (map floored (held_floors c.args.held.now)) []) c.if-not-first.false)

-- there is a floor to return
pub returns-in_err-push-clause-lacks : goal.returns-in_err-push-clause-lacks
returns-in_err-push-clause-lacks c =
    let fs = held_floors c.args.held.now in
    let some = mapped_some floored fs c.loop-floor.index c.in-Some.floor (sym c.in-Some.ensures) in
    on_err c.from_residual.result (cond c.args.first (map floored fs) [] ≢ [])
    (λ none. some (sym (ap (λ b. cond b (map floored fs) []) c.if-not-first.false) ∙ none))
